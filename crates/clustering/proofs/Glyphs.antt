-- The glyphs of a merged list by their places, and the spans: the next one, and a part of them. Assumes nothing.
use Prim.Native.Nat.{ℕ, ◌+◌, ◌-◌, ◌≤◌, ◌<◌}
use mathlib.Core.Path.{◌≡◌, sym, ap, ◌∙◌}
use mathlib.Core.Bool.{true}
use mathlib.Core.List.{List, [], ◌∷◌, map}
use native.Mathlib.Numerals.{add-one}
use native.Mathlib.Omega.{arith}
use lib.ListN.{length, get_or, take, drop, length-map, length-take, length-drop, drop_of_length-le}
use lib.Seq.{drop-cons, get_or-take, length-take-le}
use Rattle.std.proofs.lemmas.List.{take-map, drop-take, get_or-drop}
use Rattle.spec.specs.declared.Glyph.{Glyph}
use Rattle.spec.specs.Check.{units_ok}
use Rattle.spec.specs.Decode.{glyph_of}
use Rattle.job_rows.specs.Rows.{spans_in, glyphs_at, glyphs_in}
use Rattle.job_rows.proofs.ByNumber.{map-in}
use Rattle.clustering.proofs.Passing.{all_first, all_take, all_drop}
use Rattle.clustering.specs.Groups.{glyph_in, glyphs_from, widths_ok}

-- ---- a list that is mapped

map_next : {A B : Type 0} (f : A → B) (l : List A) (i : ℕ) (d : A) → i < length l → drop i (map f l) ≡ f (get_or l i d) ∷ drop (i + 1) (map f l)
map_next f l i d h =
    let h₁ : i < length (map f l) = rw (length-map l f) h in
    rw (add-one, drop-cons (map f l) i (f d) h₁, map-in f l i d (f d) h)

-- ---- a part of a list of places, from place i to n

pub read-part : (places : List ℕ) (i n k : ℕ) → k < length (take (n - i) (drop i places))
    → (i + k < n) × (get_or (take (n - i) (drop i places)) k 0 ≡ get_or places (i + k) 0)
read-part places i n k h =
    let l = length-take (n - i) (drop i places) in
    (omega (arith, l), get_or-take (n - i) (drop i places) k 0 (omega (arith, l)) ∙ get_or-drop i places k 0)

-- ---- how many spans, and the next glyph

pub spans-length : (s places : List ℕ) → length (spans_in s places) ≡ length places
unfolding spans_in
spans-length s places = length-map places _

module _ (s merged : List ℕ) where
  pub merged-next : (i : ℕ) → i < length merged → drop i (glyphs_at s merged) ≡ glyph_in s merged i ∷ drop (i + 1) (glyphs_at s merged)
  unfolding glyphs_at
  merged-next i h = map_next (λ (at : ℕ). glyph_of (drop at s)) merged i 0 h

  pub merged-length : length (glyphs_at s merged) ≡ length merged
  unfolding glyphs_at
  merged-length = length-map merged _

  pub merged-end : (i : ℕ) → length merged ≤ i → drop i (glyphs_at s merged) ≡ []
  merged-end i h = drop_of_length-le (glyphs_at s merged) {i = i} (rw merged-length h)

-- ---- the first n glyphs

module _ (s merged : List ℕ) (n : ℕ) where
  pub glyph-next : (i : ℕ) → i < n → n ≤ length merged → glyphs_from s merged i n ≡ glyph_in s merged i ∷ glyphs_from s merged (i + 1) n
  unfolding glyphs_in
  glyph-next i h k =
      let h₁ : i < length (take n merged) = simp length-take (omega arith) in
      rw (merged-next s (take n merged) i h₁, get_or-take n merged i 0)

  pub width-next : (i : ℕ) → i < n → n ≤ length merged → widths_ok (glyphs_from s merged i n) ≡ true → units_ok (glyph_in s merged i).width ≡ true
  width-next i h k e = all_first (λ (g : Glyph). units_ok g.width) (glyph-next i h k) e

  pub glyphs-length : n ≤ length merged → length (glyphs_in s merged n) ≡ n
  unfolding glyphs_in
  glyphs-length h = merged-length s (take n merged) ∙ length-take-le n merged h

  pub glyphs-end : (i : ℕ) → n ≤ i → n ≤ length merged → glyphs_from s merged i n ≡ []
  glyphs-end i h k = drop_of_length-le (glyphs_in s merged n) {i = i} (rw (glyphs-length k) h)

  pub part_length : (i : ℕ) → n ≤ length merged → length (glyphs_from s merged i n) ≡ n - i
  part_length i h = length-drop i (glyphs_in s merged n) ∙ ap (λ (m : ℕ). m - i) (glyphs-length h)

  pub glyphs-take : glyphs_in s merged n ≡ take n (glyphs_at s merged)
  unfolding glyphs_in glyphs_at
  glyphs-take = sym (take-map _ n merged)

  -- m of them from i on
  pub glyphs-part : (i m : ℕ) → n ≡ i + m → take m (drop i (glyphs_at s merged)) ≡ glyphs_from s merged i n
  glyphs-part i m e = rw (glyphs-take, e) (sym (drop-take i m (glyphs_at s merged)))

  pub widths-part : (i : ℕ) → widths_ok (glyphs_at s merged) ≡ true → widths_ok (glyphs_from s merged i n) ≡ true
  widths-part i e = rw glyphs-take (all_drop _ i (take n (glyphs_at s merged)) (all_take _ n (glyphs_at s merged) e))
