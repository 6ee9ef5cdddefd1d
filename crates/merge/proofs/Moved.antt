-- A list with a row inserted at a position, or with some left out at it; and the same done to the glyphs that stand at the rows. Assumes nothing.
use Prim.Native.Nat.{ℕ, ◌+◌, ◌-◌, ◌≤◌, ◌<◌}
use mathlib.Core.Path.{◌≡◌, sym, ◌∙◌}
use mathlib.Core.List.{List, [], ◌∷◌, ◌++◌, map-append, append-nil}
use native.Mathlib.Numerals.{add-one}
use native.Mathlib.Omega.{arith}
use lib.ListN.{length, take, drop, set, length-take, length-drop, length-map}
use lib.Seq.{paste, take-suc-set, drop-drop, take-set-lt, set-append_left, append_snoc, take-take, take_at, take_all, map-set}
use Rattle.std.proofs.lemmas.List.{take-map, drop-map, drop-take}
use Rattle.std.proofs.lemmas.List.Edits.{take-paste}
use Rattle.spec.specs.Bytes.{rows}
use Rattle.job_rows.proofs.Walks.{rows-turn, rows-done}
use Rattle.spec.specs.declared.Glyph.{Glyph}
use Rattle.spec.specs.Decode.{glyph_of, glyph_bytes}
use Rattle.spec.specs.Merge.{inserted, removed}
use Rattle.job_rows.specs.Rows.{glyphs_at}
use Rattle.merge.specs.Merged.{glyphs_in}

module _ {A : Type 0} where
  -- the first n rows after the first at of l are the rows of l from `from` on
  copied : (l : List A) (from at n : ℕ) → at ≤ length l → from + n ≤ length l → take (at + n) (paste l at (drop from l) n) ≡ take at l ++ drop from (take (from + n) l)
  copied l from at n h f =
      let few : n ≤ length (drop from l) = simp length-drop (omega arith) in
      take-paste l at (drop from l) n h few ∙ rw (drop-take from n l)

  -- the rows from `at` to `end` stand one place later, and `x` before them
  pub row-inserted : (l : List A) (end at : ℕ) (x : A) → at ≤ end → end < length l
      → take (end + 1) (set (paste l (at + 1) (drop at l) (end - at)) at x) ≡ take at l ++ x ∷ drop at (take end l)
  row-inserted l end at x h f =
      let here : at < length (take (at + 1) l) = simp length-take (omega arith) in
      let inside : at < length l = omega arith in
      let e : end + 1 ≡ at + 1 + (end - at) = omega arith in
      let g : at + (end - at) ≡ end = omega arith in
      let own : set (take (at + 1) l) at x ≡ take at l ++ x ∷ [] = sym (take-set-lt (at + 1) l at x (omega arith)) ∙ rw add-one (take-suc-set l at x inside) in
      take-set-lt (end + 1) _ at x (omega arith)
      ∙ rw (e, copied l at (at + 1) (end - at) (omega arith) (omega arith), g, set-append_left (take (at + 1) l) (drop at (take end l)) at x here, own)
      (append_snoc (take at l) x (drop at (take end l)))

  -- the `k` rows from `at` on are left out of the first `end`
  pub rows-removed : (l : List A) (end k at : ℕ) → at + k ≤ end → end ≤ length l
      → take (end - k) (paste l at (drop (at + k) l) (end - (at + k))) ≡ take at l ++ drop (at + k) (take end l)
  rows-removed l end k at h f =
      let e : end - k ≡ at + (end - (at + k)) = omega arith in
      let g : at + k + (end - (at + k)) ≡ end = omega arith in
      rw (e, copied l (at + k) at (end - (at + k)) (omega arith) (omega arith), g)

-- ---- what is done to the rows is done to the glyphs

module _ (s : List ℕ) where
  abbrev glyph_at : ℕ → Glyph
  glyph_at at = glyph_of (drop at s)

  pub glyphs-count : (l : List ℕ) (n : ℕ) → n ≤ length l → length (glyphs_in s l n) ≡ n
  unfolding glyphs_in glyphs_at
  glyphs-count l n h = rw (length-map (take n l) glyph_at, length-take) (omega arith)

  -- the rows l are the first k of m with `row` at place `at`
  pub glyphs-inserted : (l m : List ℕ) (n k at row : ℕ) → at ≤ k → take n l ≡ take at m ++ row ∷ drop at (take k m) → glyphs_in s l n ≡ inserted at (glyph_at row) (glyphs_in s m k)
  unfolding glyphs_in glyphs_at inserted
  glyphs-inserted l m n k at row h e =
      rw (e, ← take-take at k m h, map-append, ← take-map glyph_at at (take k m), ← drop-map glyph_at at (take k m))

  pub glyphs-removed : (l m : List ℕ) (n k at j : ℕ) → at + 1 ≤ k → take n l ≡ take (at + 1) m ++ drop (at + 1 + j) (take k m) → glyphs_in s l n ≡ removed at j (glyphs_in s m k)
  unfolding glyphs_in glyphs_at removed
  glyphs-removed l m n k at j h e =
      rw (e, ← take-take (at + 1) k m h, map-append, ← take-map glyph_at (at + 1) (take k m), ← drop-map glyph_at (at + 1 + j) (take k m))

  -- the list l, and whatever rows m stand behind it
  pub glyphs-front : (l m : List ℕ) (n : ℕ) → length l ≡ n → glyphs_in s (l ++ m) n ≡ glyphs_in s l n
  unfolding glyphs_in glyphs_at
  glyphs-front l m n h = rw (take_at l m n h, take_all n l (omega arith))

  pub glyphs-set : (l : List ℕ) (n at row : ℕ) → at < n → glyphs_in s (set l at row) n ≡ set (glyphs_in s l n) at (glyph_at row)
  unfolding glyphs_in glyphs_at
  glyphs-set l n at row h = rw (take-set-lt n l at row, map-set glyph_at (take n l) at row)

  -- n glyphs from `first` on, of which those before place i stand in the list already, and the next begins at `row`
  abbrev pub listed : List ℕ → ℕ → ℕ → ℕ → List Glyph
  listed l n i row = glyphs_in s l i ++ rows (λ r. glyph_bytes) glyph_of (n - i) (drop row s)

  pub listed_start : (l : List ℕ) (n first : ℕ) → listed l n 0 first ≡ rows (λ r. glyph_bytes) glyph_of n (drop first s)
  unfolding glyphs_in glyphs_at
  listed_start l n first = let e : n - 0 ≡ n = omega arith in rw e

  pub listed-step : (l : List ℕ) (n i row : ℕ) → i < n → n ≤ length l → listed (set l i row) n (i + 1) (row + glyph_bytes) ≡ listed l n i row
  unfolding glyphs_in glyphs_at
  listed-step l n i row h f =
      let f₁ : i < length l = omega arith in
      let more : 0 < n - i = omega arith in
      let e : n - (i + 1) ≡ n - i - 1 = omega arith in
      rw (e, add-one, take-suc-set l i row, map-append, append_snoc, rows-turn (λ r. glyph_bytes) glyph_of (n - i) (drop row s), drop-drop glyph_bytes row s)

  pub listed-end : (l : List ℕ) (n i row : ℕ) → n ≤ i → listed l n i row ≡ glyphs_in s l i
  listed-end l n i row h =
      let none : n - i ≤ 0 = omega arith in
      rw (rows-done (λ r. glyph_bytes) glyph_of (n - i) (drop row s), append-nil)
