-- One turn and the end of the loop over a span's glyphs, and of that over a chunk's spans. Assumes nothing.
use Prim.Native.Nat.{ℕ, ◌+◌, ◌-◌, ◌≤◌, ◌<◌}
use mathlib.Core.Path.{◌≡◌, refl, sym, ◌∙◌}
use mathlib.Core.List.{List, [], ◌∷◌, foldl}
use lib.ListN.{drop}
use lib.Seq.{drop-drop}
use Rattle.std.specs.Prelude.{Ok, Err}
use Rattle.std.specs.declared.result.Result.{Result}
use Rattle.spec.specs.declared.Refusal.{Refusal}
use Rattle.spec.specs.Refusal.{refusal_number}
use Rattle.spec_laws.proofs.IfGiven.{of-given}
use Rattle.spec.specs.Outcome.{Outcome, refused, given, and_then, IfGiven}
use Rattle.spec.specs.Bytes.{rows as records}
use Rattle.spec.specs.declared.Glyph.{Glyph}
use Rattle.spec.specs.declared.Span.{Span}
use Rattle.spec.specs.Decode.{glyph_of, glyph_bytes}
use Rattle.spec.specs.Merge.{Merging, merge_glyph, merge_done}
use Rattle.job_rows.proofs.Walks.{rows-turn, rows-done}
use Rattle.merge.specs.Merged.{glyphs_in, merged_of, places_in}
use Rattle.merge.specs.Steps.{merging_at, merging_of, stamped, AtState}
use Rattle.merge.specs.declared.progress.Progress.{Progress}
use Rattle.merge.proofs.Shifted.{After, followed}

fold-refused : (span : Span) (k : ℕ) (gs : List Glyph) → foldl (merge_glyph span) (refused k) gs ≡ refused k
unfolding merge_glyph and_then
fold-refused span k [] = refl
fold-refused span k (g ∷ gs) = fold-refused span k gs

-- what a span's merge leaves
module _ (s rows stamps₀ stamps : List ℕ) (stamp : ℕ) (whole : Outcome Merging) where
  pub record Ends (r : Result ℕ Refusal) : Type 0 where
    pub marked : IfGiven (λ (gs : List Glyph). stamps ≡ stamped stamp (places_in whole) stamps₀) (merge_done whole)
    pub is : merged_of r s rows ≡ merge_done whole

  ends-refused : (k : Refusal) → refused (refusal_number k) ≡ whole → Ends (Err k)
  unfolding merged_of merge_done and_then
  ends-refused k e = rw (← e) record { marked = tt; is = refl }

  ends-given : (at : Progress) (positions : List ℕ) → stamps ≡ stamped stamp positions stamps₀ → given (merging_at at s rows positions) ≡ whole → Ends (Ok at.count)
  unfolding merged_of merge_done and_then places_in
  ends-given at positions known e = rw (← e) record { marked = known; is = refl }

module _ (s : List ℕ) (span : Span) (stamp : ℕ) (stamps₀ : List ℕ) (whole : Outcome Merging) where
  -- the n glyphs from `row` on, merged into what is there now, give `whole`
  pub record Left (rows stamps : List ℕ) (at : Progress) (row n : ℕ) : Type 0 where
    pub positions : List ℕ
    pub marked : stamps ≡ stamped stamp positions stamps₀
    pub rest : foldl (merge_glyph span) (given (merging_at at s rows positions)) (records (λ b. glyph_bytes) glyph_of n (drop row s)) ≡ whole

  -- the merge of the glyph at `row` gave r
  pub record Turn (rows rows₁ stamps stamps₁ : List ℕ) (at : Progress) (row n : ℕ) (r : Result Progress Refusal) : Type 0 where
    pub left : Left rows stamps at row n
    pub some : 0 < n
    pub did : AtState r s rows₁ stamp stamps₀ stamps₁ (merge_glyph span (given (merging_at at s rows left.positions)) (glyph_of (drop row s)))

  pub left-done : (rows stamps : List ℕ) (at : Progress) (row n : ℕ) → Left rows stamps at row n → n ≤ 0 → Ends s rows stamps₀ stamps stamp whole (Ok at.count)
  left-done rows stamps at row n l h =
      ends-given s rows stamps₀ stamps stamp whole at l.positions l.marked (rw (rows-done (λ b. glyph_bytes) glyph_of n (drop row s) h) at l.rest)

module _ {s : List ℕ} {span : Span} {stamp : ℕ} {stamps₀ : List ℕ} {whole : Outcome Merging} {rows rows₁ stamps stamps₁ : List ℕ} {at : Progress} {row n : ℕ} {r : Result Progress Refusal}
    (t : Turn s span stamp stamps₀ whole rows rows₁ stamps stamps₁ at row n r) where
  abbrev m : Merging
  m = merging_at at s rows t.left.positions

  abbrev o : Outcome Merging
  o = merge_glyph span (given m) (glyph_of (drop row s))

  next : foldl (merge_glyph span) (merging_of r s rows₁ (places_in o)) (records (λ b. glyph_bytes) glyph_of (n - 1) (drop (row + glyph_bytes) s)) ≡ whole
  next = rw (t.did.is, ← drop-drop glyph_bytes row s) (rw (rows-turn (λ b. glyph_bytes) glyph_of n (drop row s) t.some) at t.left.rest)

  -- what holds of the outcome holds of the code's state
  given-at : (P : Merging → Type 0) (at₁ : Progress) → r ≡ Ok at₁ → IfGiven P o → P (merging_at at₁ s rows₁ (places_in o))
  unfolding merging_of
  given-at P at₁ e k = of-given P o (merging_at at₁ s rows₁ (places_in o)) k (sym (rw e at t.did.is))

  pub left-on : (at₁ : Progress) → r ≡ Ok at₁ → Left s span stamp stamps₀ whole rows₁ stamps₁ at₁ (row + glyph_bytes) (n - 1)
  unfolding merging_of
  left-on at₁ e = record {
    positions = places_in o;
    marked = given-at (λ (m₁ : Merging). stamps₁ ≡ stamped stamp m₁.replaced stamps₀) at₁ e t.did.marked;
    rest = rw e at next;
  }

  pub step_after : (at₁ : Progress) → r ≡ Ok at₁ → After m (glyph_of (drop row s)) (glyphs_in s rows₁ at₁.count)
  step_after at₁ e = given-at (λ (m₁ : Merging). After m (glyph_of (drop row s)) m₁.list) at₁ e (followed m (glyph_of (drop row s)) span)

  pub left-halted : (k : Refusal) → r ≡ Err k → Ends s rows₁ stamps₀ stamps₁ stamp whole (Err k)
  unfolding merging_of
  left-halted k e =
      ends-refused s rows₁ stamps₀ stamps₁ stamp whole k
      (sym (fold-refused span (refusal_number k) (records (λ b. glyph_bytes) glyph_of (n - 1) (drop (row + glyph_bytes) s))) ∙ (rw e at next))
