-- The cases of the definitions' merge of one glyph, given what the code reads and tests: the glyph stands at `row` in the record s, and the
-- list's glyphs at `rows`. Assumes nothing.
use Prim.Native.Nat.{ℕ, ◌+◌, ◌-◌, ◌≤◌, ◌<◌}
use mathlib.Core.Path.{◌≡◌, refl, sym, ◌∙◌}
use mathlib.Core.Bool.{true, false}
use mathlib.Core.List.{List, ◌∷◌}
use native.Mathlib.Omega.{arith}
use lib.ListN.{length, drop, get_or, set}
use borrow.Author.Tests.{lt-ltb, le-ltb, le-leb, lt-leb}
use Rattle.std.specs.Prelude.{Ok, Err}
use Rattle.std.specs.declared.result.Result.{Result}
use Rattle.spec.specs.declared.Refusal.{Refusal}
use Rattle.spec.specs.Lists.{elem}
use Rattle.spec.specs.declared.Glyph.{Glyph}
use Rattle.spec.specs.declared.Span.{Span}
use Rattle.spec.specs.Job.{limits}
use Rattle.spec.specs.Decode.{glyph_of}
use Rattle.spec.specs.Outcome.{Outcome, refused, given, and_then}
use Rattle.spec.specs.Merge.{Merging, inserted, removed, skipped, insert_next, replace_longer, replace, replace_first, merge_glyph, span_contains, place_of, length_at}
use Rattle.merge.specs.Merged.{places_in}
use Rattle.merge.specs.Steps.{merging_at, merging_of, stamped, AtState}
use Rattle.merge.specs.declared.progress.Progress.{Progress}
use Rattle.merge.proofs.Moved.{glyphs-count}
use Rattle.merge.proofs.Found.{length-there}

module _ (s rows : List ℕ) (at : Progress) (row : ℕ) (positions : List ℕ) (held : at.count ≤ length rows) where
  abbrev g : Glyph
  g = glyph_of (drop row s)

  abbrev m : Merging
  m = merging_at at s rows positions

  counted : length m.list ≡ at.count
  counted = glyphs-count s rows at.count held

  -- the code's state after it is skipped
  pub skips : (at₁ : Progress) → (at₁.count ≡ at.count) × (at₁.owed ≡ 0) × (at₁.next ≡ 0) → given (merging_at at₁ s rows positions) ≡ given (skipped m)
  skips at₁ e = rw (e.0, e.1, e.2)

  pub inserts : at.count < limits.merged
      → insert_next g m ≡ given record { list = inserted at.next g m.list; replaced = positions; owed = at.owed - 1; next = at.next + 1 }
  unfolding insert_next
  inserts h = rw (counted, lt-ltb at.count limits.merged h)

  pub full : limits.merged ≤ at.count → insert_next g m ≡ refused 8
  unfolding insert_next
  full h = rw (counted, le-ltb at.count limits.merged h)

  -- the glyph is to take place p, and its cluster length is k + 1
  module _ (p k : ℕ) (k-is : k + 1 ≡ g.length) where
    pub covers : p + k < at.count → replace_longer g p m ≡ given record { list = set (removed p k m.list) p g; replaced = p ∷ positions; owed = 0; next = 0 }
    unfolding replace_longer
    covers h =
        let e : k + 1 - 1 ≡ k = omega arith in
        rw (counted, ← k-is, le-leb (p + (k + 1)) at.count (omega arith), e)

    pub past_end : at.count ≤ p + k → replace_longer g p m ≡ refused 7
    unfolding replace_longer
    past_end h = rw (counted, ← k-is, lt-leb (p + (k + 1)) at.count (omega arith))

  -- the glyph is to take place p; its cluster length is `new`, and that of the glyph there is `old`
  module _ (p new old : ℕ) (New-is : new ≡ g.length) (old-is : old ≡ (glyph_of (drop (get_or rows p 0) s)).length) (inside : p < at.count) where
    there : length_at m.list p ≡ old
    there = length-there s rows at.count p inside held ∙ sym old-is

    pub longer : old < new → replace g p m ≡ replace_longer g p m
    unfolding replace
    longer h = rw (there, ← New-is, lt-ltb old new h)

    abbrev put : ℕ → Merging
    put owed = record { list = set m.list p g; replaced = p ∷ positions; owed = owed; next = p + 1 }

    pub shorter : new < old → replace g p m ≡ given (put (old - 1))
    unfolding replace
    shorter h = rw (there, ← New-is, le-ltb old new (omega arith), lt-ltb new old h)

    pub as_long : new ≤ old → old ≤ new → replace g p m ≡ given (put 0)
    unfolding replace
    as_long h l = rw (there, ← New-is, le-ltb old new h, le-ltb new old l)

  -- its byte index is `index`
  module _ (span : Span) (index : ℕ) (index_is : index ≡ g.index) where
    pub outside : span_contains span index ≡ false → replace_first span g m ≡ given (skipped m)
    unfolding replace_first
    outside e = rw (← index_is, e)

    -- the span covers it, and the first glyph of that byte index stands at place p
    module _ (e : span_contains span index ≡ true) (p : ℕ) (p-is : p ≡ place_of index m.list) where
      pub missing : at.count ≤ p → replace_first span g m ≡ given (skipped m)
      unfolding replace_first
      missing h = rw (← index_is, e, counted, ← p-is, le-ltb p at.count h)

      pub replaced : p < at.count → elem p positions ≡ true → replace_first span g m ≡ given (skipped m)
      unfolding replace_first
      replaced h a = rw (← index_is, e, counted, ← p-is, lt-ltb p at.count h, a)

      pub replaces : p < at.count → elem p positions ≡ false → replace_first span g m ≡ replace g p m
      unfolding replace_first
      replaces h a = rw (← index_is, e, counted, ← p-is, lt-ltb p at.count h, a)

  -- ---- the next glyph

  pub glyph-owed : (span : Span) → 0 < at.owed → merge_glyph span (given m) g ≡ insert_next g m
  unfolding merge_glyph and_then
  glyph-owed span h = rw (lt-ltb 0 at.owed h)

  pub glyph-free : (span : Span) → at.owed ≤ 0 → merge_glyph span (given m) g ≡ replace_first span g m
  unfolding merge_glyph and_then
  glyph-free span h = rw (le-ltb 0 at.owed h)

-- ---- a step is the outcome o, and the stamps are those of the places that it remembers

pub stood : {s rows stamps₀ stamps : List ℕ} {stamp : ℕ} {o : Outcome Merging} (r : Result Progress Refusal) (positions : List ℕ) → stamps ≡ stamped stamp positions stamps₀ → merging_of r s rows positions ≡ o
    → AtState r s rows stamp stamps₀ stamps o
unfolding merging_of places_in
stood (Ok at) positions known e = rw (← e) record { marked = known; is = refl }
stood (Err k) positions known e = rw (← e) record { marked = tt; is = refl }
