-- A cluster's width and advance, glyph by glyph. Assumes nothing.
use Prim.Native.Nat.{ℕ, ◌+◌, ◌≤◌, ◌<◌}
use mathlib.Core.Path.{◌≡◌, refl}
use mathlib.Core.Bool.{true}
use mathlib.Core.List.{List, foldl}
use lib.ListN.{length}
use lib.Ieee.{Float}
use Rattle.spec.specs.declared.Font.{Font}
use Rattle.spec.specs.declared.Glyph.{Glyph}
use Rattle.spec.specs.Check.{units_ok}
use Rattle.spec.specs.Single.{◌+ᶠ◌, +0}
use Rattle.spec.specs.Arithmetic.{greatest, glyph_advance, sum_advance, max_advance}
use Rattle.spec.specs.Cluster.{rounded}
use Rattle.clustering.specs.Groups.{glyph_in, glyphs_from, widths_ok, Measurable}
use Rattle.clustering.proofs.Passing.{all_rest}
use Rattle.clustering.proofs.Glyphs.{glyph-next, glyphs-end}

module _ (s merged : List ℕ) (fonts : List Font) (size : Float) (from end : ℕ) where
  -- with the glyphs from place i on, which are left, the largest so far, w, and the sum so far, a, come to the cluster's width and advance
  pub record Left (i : ℕ) (w a : Float) : Type 0 where
    pub fit : end ≤ length merged
    pub widths : widths_ok (glyphs_from s merged i end) ≡ true
    pub width : foldl (λ (w : Float) (g : Glyph). greatest rounded w (glyph_advance rounded fonts size g)) w (glyphs_from s merged i end) ≡ max_advance rounded fonts size (glyphs_from s merged from end)
    pub advance : foldl (λ (a : Float) (g : Glyph). a +ᶠ glyph_advance rounded fonts size g) a (glyphs_from s merged i end) ≡ sum_advance rounded fonts size (glyphs_from s merged from end)

  pub left-all : Measurable s merged from end → Left from +0 +0
  unfolding max_advance sum_advance
  left-all given = record { fit = given.inside; widths = given.widths; width = refl; advance = refl }

module _ {s merged : List ℕ} {fonts : List Font} {size : Float} {from end i : ℕ} {w a : Float} (left : Left s merged fonts size from end i w a) where
  -- x is the next glyph's advance
  pub left-next : i < end → {x v b : Float} → x ≡ glyph_advance rounded fonts size (glyph_in s merged i) → (v ≡ greatest rounded w x) × (b ≡ a +ᶠ x)
      → Left s merged fonts size from end (i + 1) v b
  left-next h e with-x =
      let next = glyph-next s merged end i h left.fit in
      record {
        fit = left.fit;
        widths = all_rest (λ (g : Glyph). units_ok g.width) next left.widths;
        width = rw (with-x.0, e) (rw next at left.width);
        advance = rw (with-x.1, e) (rw next at left.advance);
      }

  pub left-none : end ≤ i
      → (w ≡ max_advance rounded fonts size (glyphs_from s merged from end)) × (a ≡ sum_advance rounded fonts size (glyphs_from s merged from end))
  left-none h =
      let none = glyphs-end s merged end i h left.fit in
      (rw none at left.width, rw none at left.advance)
