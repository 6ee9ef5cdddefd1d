-- The first places of the byte indexes before and after the merge of one glyph: they stay where the glyph takes the place of another, are
-- earlier by no more than what is removed, and are no earlier after an insertion, but for the glyph's own. Assumes nothing.
use Prim.Native.Nat.{ℕ, zero, suc, ◌+◌, ◌-◌, ◌≤◌, ◌<◌, min}
use mathlib.Core.Path.{◌≡◌, refl}
use mathlib.Core.Bool.{Bool, true, false}
use mathlib.Core.List.{List, [], ◌∷◌}
use native.Mathlib.Omega.{arith}
use lib.Dec.{eqb, leb, ltb}
use lib.ListN.{length, drop, set, length-append, length-take, length-drop, length-set}
use lib.Seq.{take-nil, drop-nil}
use borrow.Author.Tests.{eqb-true, ne_eqb}
use Rattle.spec_laws.proofs.All.{cond-keeps}
use Rattle.spec.specs.Outcome.{Outcome, given, and_then, IfGiven}
use Rattle.spec.specs.Lists.{find_idx}
use Rattle.spec.specs.Job.{limits}
use Rattle.spec.specs.declared.Glyph.{Glyph}
use Rattle.spec.specs.declared.Span.{Span}
use Rattle.spec.specs.Merge.{Merging, inserted, removed, may_replace, insert_next, replace_longer, replace, replace_first, merge_glyph, place_of, length_at}

-- a glyph takes the place of the first of its byte index
place_set : (g : Glyph) (b : ℕ) (gs : List Glyph) → place_of b (set gs (place_of g.index gs) g) ≡ place_of b gs
unfolding find_idx
place_set g b [] = refl
place_set g b (x ∷ gs) = go (eqb x.index g.index) refl (place_set g b gs)
  where
    go : (t : Bool) → eqb x.index g.index ≡ t → place_of b (set gs (place_of g.index gs) g) ≡ place_of b gs
        → place_of b (set (x ∷ gs) (place_of g.index (x ∷ gs)) g) ≡ place_of b (x ∷ gs)
    go true e on = rw (e, eqb-true x.index g.index e)
    go false e on = rw (e, on)

-- glyph x stands before both lists
more : (b d : ℕ) (x : Glyph) (l m : List Glyph) → place_of b l ≤ place_of b m + d → place_of b (x ∷ l) ≤ place_of b (x ∷ m) + d
unfolding find_idx
more b d x l m h = go (eqb x.index b) refl
  where
    go : (t : Bool) → eqb x.index b ≡ t → place_of b (x ∷ l) ≤ place_of b (x ∷ m) + d
    go true e = rw e (omega arith)
    go false e = rw e (omega arith)

place-first : (b : ℕ) (x : Glyph) (l : List Glyph) → place_of b (x ∷ l) ≤ suc (place_of b l)
unfolding find_idx
place-first b x l = go (eqb x.index b) refl
  where
    go : (t : Bool) → eqb x.index b ≡ t → place_of b (x ∷ l) ≤ suc (place_of b l)
    go true e = rw e (omega arith)
    go false e = rw e (omega arith)

-- ---- k glyphs are removed

place-drop : (b k : ℕ) (l : List Glyph) → place_of b l ≤ place_of b (drop k l) + (length l - length (drop k l))
unfolding find_idx
place-drop b zero l = omega arith
place-drop b (suc k) [] = omega arith
place-drop b (suc k) (x ∷ l) = omega (arith, place-first b x l, place-drop b k l, length-drop k l)

removed-nil : (p k : ℕ) → removed p k [] ≡ []
unfolding removed
removed-nil p k = rw (take-nil {A = Glyph} (p + 1), drop-nil {A = Glyph} (p + 1 + k))

removed-here : (k : ℕ) (x : Glyph) (gs : List Glyph) → removed 0 k (x ∷ gs) ≡ x ∷ drop k gs
unfolding removed
removed-here k x gs = let e : 1 + k ≡ suc k = omega arith in rw e

removed-on : (p k : ℕ) (x : Glyph) (gs : List Glyph) → removed (suc p) k (x ∷ gs) ≡ x ∷ removed p k gs
unfolding removed
removed-on p k x gs =
    let e : suc p + 1 ≡ suc (p + 1) = omega arith in
    let f : suc (p + 1) + k ≡ suc (p + 1 + k) = omega arith in
    rw (e, f)

place-removed : (b p k : ℕ) (gs : List Glyph) → place_of b gs ≤ place_of b (removed p k gs) + (length gs - length (removed p k gs))
place-removed b p k [] = rw (removed-nil p k) (omega arith)
place-removed b zero k (x ∷ gs) =
    rw (removed-here k x gs) (omega (arith, more b (length gs - length (drop k gs)) x gs (drop k gs) (place-drop b k gs)))
place-removed b (suc p) k (x ∷ gs) =
    rw (removed-on p k x gs)
    (omega (arith, more b (length gs - length (removed p k gs)) x gs (removed p k gs) (place-removed b p k gs)))

-- the first glyph of its byte index stays
place-left : (b k : ℕ) (gs : List Glyph) → place_of b (removed (place_of b gs) k gs) ≡ place_of b gs
unfolding find_idx
place-left b k [] = rw (removed-nil (place_of b []) k)
place-left b k (x ∷ gs) = go (eqb x.index b) refl (place-left b k gs)
  where
    go : (t : Bool) → eqb x.index b ≡ t → place_of b (removed (place_of b gs) k gs) ≡ place_of b gs
        → place_of b (removed (place_of b (x ∷ gs)) k (x ∷ gs)) ≡ place_of b (x ∷ gs)
    go true e on = rw (e, removed-here k x gs, e)
    go false e on = rw (e, removed-on (place_of b gs) k x gs, e, on)

removed-length : (p k : ℕ) (gs : List Glyph) → length (removed p k gs) ≤ length gs
unfolding removed
removed-length p k gs = simp (length-append, length-take, length-drop) (omega arith)

place-removed-set : (g : Glyph) (b k : ℕ) (gs : List Glyph)
    → place_of b (set (removed (place_of g.index gs) k gs) (place_of g.index gs) g) ≡ place_of b (removed (place_of g.index gs) k gs)
place-removed-set g b k gs =
    rw (place-left g.index k gs) at (place_set g b (removed (place_of g.index gs) k gs))

-- ---- g is inserted at place q

module _ (g : Glyph) where
  inserted-length : (q : ℕ) (gs : List Glyph) → length gs < length (inserted q g gs)
  unfolding inserted
  inserted-length q gs = simp (length-append, length-take, length-drop) (omega arith)

  place_other : (b q : ℕ) (gs : List Glyph) → (g.index ≡ b → ⊥) → place_of b gs ≤ place_of b (inserted q g gs)
  unfolding find_idx inserted
  place_other b zero gs other = rw (ne_eqb g.index b other) (omega arith)
  place_other b (suc q) [] other = omega arith
  place_other b (suc q) (x ∷ gs) other = omega (arith, more b 0 x gs (inserted q g gs) (omega (arith, place_other b q gs other)))

  place-own : (q : ℕ) (gs : List Glyph) → min (place_of g.index gs) q ≤ place_of g.index (inserted q g gs)
  unfolding find_idx inserted
  place-own zero gs = omega arith
  place-own (suc q) [] = omega arith
  place-own (suc q) (x ∷ gs) = go (eqb x.index g.index) refl (place-own q gs)
    where
      go : (t : Bool) → eqb x.index g.index ≡ t → min (place_of g.index gs) q ≤ place_of g.index (inserted q g gs)
          → min (place_of g.index (x ∷ gs)) (suc q) ≤ place_of g.index (x ∷ inserted q g gs)
      go true e on = rw e (omega arith)
      go false e on = rw e (omega arith)

-- ---- the merge of g into the list of a state m

module _ (m : Merging) (g : Glyph) where
  abbrev gs : List Glyph
  gs = m.list

  -- gs₁ is the list after it; was g inserted, then at the state's place
  pub record After (gs₁ : List Glyph) : Type 0 where
    pub shorter : length gs₁ ≤ length gs → (b : ℕ) → place_of b gs ≤ place_of b gs₁ + (length gs - length gs₁)
    pub other : length gs < length gs₁ → (b : ℕ) → (g.index ≡ b → ⊥) → place_of b gs ≤ place_of b gs₁
    pub own : length gs < length gs₁ → min (place_of g.index gs) m.next ≤ place_of g.index gs₁

  no_longer : (gs₁ : List Glyph) → length gs₁ ≤ length gs → ((b : ℕ) → place_of b gs ≤ place_of b gs₁ + (length gs - length gs₁)) → After gs₁
  no_longer gs₁ h places = record {
    shorter = λ k b. places b;
    other = λ k b n. absurd (omega arith);
    own = λ k. absurd (omega arith);
  }

  abbrev pub Followed : Outcome Merging → Type 0
  Followed = IfGiven (λ (m₁ : Merging). After m₁.list)

  inserts : Followed (insert_next g m)
  unfolding insert_next
  inserts =
      cond-keeps Followed (ltb (length gs) limits.merged)
      record {
        shorter = λ h. absurd (omega (arith, inserted-length g m.next gs, h));
        other = λ h b n. place_other g b m.next gs n;
        own = λ h. place-own g m.next gs;
      }
      tt

  abbrev p : ℕ
  p = place_of g.index gs

  replaces-longer : Followed (replace_longer g p m)
  unfolding replace_longer
  replaces-longer =
      let k = g.length - 1 in
      cond-keeps Followed (leb (p + g.length) (length gs))
      (no_longer (set (removed p k gs) p g) (simp length-set (removed-length p k gs))
      (λ b. simp length-set (omega (arith, place-removed-set g b k gs, place-removed b p k gs))))
      tt

  replaces : Followed (replace g p m)
  unfolding replace
  replaces =
      cond-keeps Followed (ltb (length_at gs p) g.length) replaces-longer
      (no_longer (set gs p g) (simp length-set (omega arith)) (λ b. omega (arith, place_set g b gs)))

  replaces-first : (span : Span) → Followed (replace_first span g m)
  unfolding replace_first
  replaces-first span = cond-keeps Followed (may_replace span g m) replaces (no_longer gs (omega arith) (λ b. omega arith))

  pub followed : (span : Span) → Followed (merge_glyph span (given m) g)
  unfolding merge_glyph and_then
  followed span = cond-keeps Followed (ltb 0 m.owed) inserts (replaces-first span)
