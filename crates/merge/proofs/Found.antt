-- The search for a byte index, from a place on; the glyph at a place of the list. Assumes nothing.
use Prim.Native.Nat.{ℕ, zero, suc, ◌+◌, ◌-◌, ◌≤◌, ◌<◌}
use mathlib.Core.Path.{◌≡◌, refl, sym, ◌∙◌}
use mathlib.Core.Bool.{Bool, true, false, cond}
use mathlib.Core.List.{List, [], ◌∷◌, map}
use native.Mathlib.Nat.{le_of_suc-le-suc, not-suc-le-zero}
use native.Mathlib.Omega.{arith}
use lib.Dec.{eqb, ltb}
use lib.ListN.{length, take, drop, get_or, length-take}
use lib.Seq.{get_or-take}
use borrow.Author.Tests.{ltb-false}
use Rattle.std.specs.Prelude.{Option, Some, None, unwrap_or}
use Rattle.std.specs.List.{position, position_or_len}
use Rattle.std.proofs.lemmas.List.{drop-map, drop-take}
use Rattle.std.proofs.lemmas.List.Recursion.{is_position_or_len}
use Rattle.spec_laws.proofs.Search.{find-le}
use Rattle.merge.proofs.Moved.{glyphs-count}
use Rattle.spec_laws.proofs.Outcomes.{mapped}
use Rattle.spec.specs.Lists.{find_idx, get_map_or}
use Rattle.spec.specs.declared.Glyph.{Glyph}
use Rattle.spec.specs.Decode.{glyph_of}
use Rattle.spec.specs.Merge.{place_of, length_at}
use Rattle.job_rows.specs.Rows.{glyphs_at}
use Rattle.merge.specs.Merged.{glyphs_in}

-- nothing before place i has p
past : {A : Type 0} (p : A → Bool) (l : List A) (i : ℕ) → i ≤ find_idx p l → i + find_idx p (drop i l) ≡ find_idx p l
unfolding find_idx
past p l zero h = omega arith
past p [] (suc i) h = absurd (not-suc-le-zero h)
past p (x ∷ l) (suc i) h = go (p x) refl (past p l i)
  where
    go : (b : Bool) → p x ≡ b → (i ≤ find_idx p l → i + find_idx p (drop i l) ≡ find_idx p l) → suc i + find_idx p (drop i l) ≡ find_idx p (x ∷ l)
    go true e on = absurd (not-suc-le-zero (rw e at h))
    go false e on =
        let k : suc i ≤ suc (find_idx p l) = rw e at h in
        rw e (omega (arith, on (le_of_suc-le-suc k)))

module _ {A : Type 0} (p : A → Bool) where
  find-is : (xs : List A) → find_idx p xs ≡ position_or_len p xs
  unfolding find_idx
  find-is xs = is_position_or_len (find_idx p) p refl (λ x xs. let e : 1 + find_idx p xs ≡ suc (find_idx p xs) = omega arith in rw e) xs

  found-choice : (place n : ℕ) (b : Bool) → ltb place n ≡ b → place ≤ n → unwrap_or (cond b (Some place) None) n ≡ place
  found-choice place n true e h = refl
  found-choice place n false e h = let above = ltb-false _ _ e in omega arith

  -- the library's search, as the definitions search
  pub found : (xs : List A) {o : Option ℕ} {r : ℕ} → o ≡ position p xs → r ≡ unwrap_or o (length xs) → r ≡ find_idx p xs
  found xs e f = rw (f, e, ← find-is xs) (found-choice (find_idx p xs) (length xs) _ refl (find-le p xs))

  pub find-map : {B : Type 0} (f : B → A) (xs : List B) → find_idx p (map f xs) ≡ find_idx (λ (x : B). p (f x)) xs
  unfolding find_idx
  find-map f [] = refl
  find-map f (x ∷ xs) = rw (find-map f xs)

module _ (s rows : List ℕ) (n index from : ℕ) where
  pub from-le : n ≤ length rows → from ≤ place_of index (glyphs_in s rows n) → from ≤ n
  from-le k h = omega (arith, find-le (λ (g : Glyph). eqb g.index index) (glyphs_in s rows n), glyphs-count s rows n k)

  abbrev glyph_at : ℕ → Glyph
  glyph_at at = glyph_of (drop at s)

  -- the search that has passed `from` rows ends where one from the start does
  pub place-found : from ≤ n → from ≤ place_of index (glyphs_in s rows n) → {o : Option ℕ} {r : ℕ}
      → (let listed = take (n - from) (drop from rows) in
      o ≡ position (λ (at : ℕ). eqb (glyph_at at).index index) listed → r ≡ unwrap_or o (length listed) → from + r ≡ place_of index (glyphs_in s rows n))
  unfolding glyphs_in glyphs_at
  place-found k h e f =
      let is-index = λ (g : Glyph). eqb g.index index in
      let all : from + (n - from) ≡ n = omega arith in
      let part : take (n - from) (drop from rows) ≡ drop from (take n rows) = sym (drop-take from (n - from) rows) ∙ rw all in
      let found-is = found (λ (at : ℕ). is-index (glyph_at at)) _ e f in
      rw (found-is, part, ← find-map is-index glyph_at (drop from (take n rows)), ← drop-map glyph_at from (take n rows))
      (past is-index (map glyph_at (take n rows)) from h)

-- what f gives of the glyph at a place of the list
at_map : {A B C : Type 0} (b : C) (f : B → C) (h : A → B) (d : A) (l : List A) (n p : ℕ) → p < n → n ≤ length l → get_map_or b f (map h (take n l)) p ≡ f (h (get_or l p d))
unfolding get_map_or
at_map b f h d l zero p k m = absurd (not-suc-le-zero k)
at_map b f h d [] (suc n) p k m = absurd (not-suc-le-zero m)
at_map b f h d (x ∷ l) (suc n) zero k m = refl
at_map b f h d (x ∷ l) (suc n) (suc p) k m = at_map b f h d l n p (le_of_suc-le-suc k) (le_of_suc-le-suc m)

pub length-there : (s rows : List ℕ) (n p : ℕ) → p < n → n ≤ length rows → length_at (glyphs_in s rows n) p ≡ (glyph_of (drop (get_or rows p 0) s)).length
unfolding glyphs_in glyphs_at
length-there s rows n p h k = at_map 0 (λ (g : Glyph). g.length) (λ (at : ℕ). glyph_of (drop at s)) 0 rows n p h k

-- the glyph at place i, and those after it
pub glyphs-next : (s rows : List ℕ) (n i : ℕ) → i < n → n ≤ length rows → drop i (glyphs_in s rows n) ≡ glyph_of (drop (get_or rows i 0) s) ∷ drop (i + 1) (glyphs_in s rows n)
unfolding glyphs_in glyphs_at
glyphs-next s rows n i h k =
    rw (← get_or-take n rows i 0 h) (mapped (λ (at : ℕ). glyph_of (drop at s)) (take n rows) i 0 (simp length-take (omega arith)))
