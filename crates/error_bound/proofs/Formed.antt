-- Step 2: a cluster's advance and width beside the exact ones, and the size of what they are added up from. Assumes nothing.
use Prim.Native.Nat.{ℕ, zero, suc, ◌+◌, ◌*◌, ◌^◌, ◌≤◌, ◌<◌}
use mathlib.Core.Path.{◌≡◌, sym, ap, ◌∙◌, subst}
use mathlib.Core.List.{List, [], ◌∷◌, map, foldl}
use native.Mathlib.Nat.{not-suc-le-zero, le_of_suc-le-suc, le_refl, mul_assoc, mul-le-mul_right}
use native.Mathlib.Omega.{arith}
use lib.IntN.{nat_abs}
use lib.ListN.{length, length-map, get_or-map}
use lib.Ieee.{Float}
use Rattle.float_error.specs.Fraction.{Frac, ◌+ᵠ◌, absᵠ}
use Rattle.float_error.proofs.Units.{unit}
use Rattle.float_error.proofs.Approx.{Scale}
use Rattle.float_error.proofs.Track.{Track}
use Rattle.float_error.proofs.Inputs.{FontSize}
use Rattle.float_error.proofs.Operands.{track-zero, advance_mass, track-glyph, glyph-size, glyph-small, glyph-absorbs}
use Rattle.float_error.proofs.Sums.{Terms, Terms.none, Terms.more, track-sum}
use Rattle.float_error.proofs.Extremes.{terms-each, track-maximum}
use Rattle.spec.specs.Lists.{All}
use Rattle.spec.specs.declared.Font.{Font}
use Rattle.spec.specs.declared.Glyph.{Glyph}
use Rattle.spec.specs.Job.{font_at, blank_font}
use Rattle.spec.specs.Arithmetic.{glyph_advance, sum_advance, max_advance}
use Rattle.spec.specs.Cluster.{rounded}
use Rattle.spec.specs.Exact.{exact}
use Rattle.error_bound.proofs.Tracks.{track-as}
use Rattle.error_bound.proofs.Products.{product, others, divides}
use Rattle.error_bound.proofs.Load.{Load, load-zero, load-add, load-as}

abbrev pub units_of : List Font → List ℕ
units_of fonts = map (λ (f : Font). f.units) fonts

-- from 1 to 65,535 units per em
pub record FontIn (f : Font) : Type 0 where
  pub some : 0 < f.units
  pub few : f.units ≤ 65535

-- a font of the job, and a width within ±65,535
pub record GlyphIn (fonts : List Font) (g : Glyph) : Type 0 where
  pub font : g.font < length fonts
  pub width : nat_abs g.width ≤ 65535

-- The common denominator of a chunk: the fonts' units per em, the divisors K of the text lengths, and 2 for the anchor
pub record Frame (fonts : List Font) (K D S : ℕ) : Type 0 where
  pub scale : Scale D S
  pub is : D ≡ product (units_of fonts) * (K * 2)
  pub good : All FontIn fonts

font-in : {fonts : List Font} → All FontIn fonts → (b : ℕ) → b < length fonts → FontIn (font_at fonts b)
font-in All.none b h = absurd (not-suc-le-zero h)
font-in (All.more p ps) zero h = p
font-in (All.more p ps) (suc b) h = font-in ps b (le_of_suc-le-suc h)

-- ---- masses: sizes in D-ths of a unit

-- what D has beyond a font's units per em and the level
abbrev beyond : List Font → Glyph → ℕ
beyond fonts g = others (units_of fonts) g.font

-- the size of a glyph's exact advance, and of several
abbrev pub glyph_mass : List Font → ℕ → Float → Glyph → ℕ
glyph_mass fonts K size g = advance_mass g.width size (beyond fonts g * (K * 2))

abbrev pub glyphs_mass : List Font → ℕ → Float → List Glyph → ℕ
glyphs_mass fonts K size [] = 0
glyphs_mass fonts K size (g ∷ gs) = glyph_mass fonts K size g + glyphs_mass fonts K size gs

module _ {fonts : List Font} {K D S : ℕ} (frame : Frame fonts K D S) (size : Float) (sized : FontSize size) where
  divided : (g : Glyph) → GlyphIn fonts g → D ≡ (font_at fonts g.font).units * (beyond fonts g * (K * 2))
  divided g h =
      frame.is
      ∙ ap (λ (z : ℕ). z * (K * 2)) (divides (units_of fonts) g.font blank_font.units (subst (λ (n : ℕ). g.font < n) (sym (length-map fonts (λ (f : Font). f.units))) h.font) ∙ ap (λ (z : ℕ). z * beyond fonts g) (get_or-map (λ (f : Font). f.units) fonts g.font blank_font))
      ∙ mul_assoc (font_at fonts g.font).units (beyond fonts g) (K * 2)

  -- ---- a glyph

  glyph-track : (g : Glyph) → GlyphIn fonts g → Track D S (K * 2) (glyph_advance rounded fonts size g) (glyph_advance exact fonts size g) (glyph_mass fonts K size g) (19 * glyph_mass fonts K size g)
  glyph-track g h =
      let f = font-in frame.good g.font h.font in
      track-glyph (K * 2) (beyond fonts g) g.width size (font_at fonts g.font).units (divided g h) h.width f.some f.few sized frame.scale

  glyph-load : (g : Glyph) → GlyphIn fonts g → Load D (absᵠ (glyph_advance exact fonts size g)) (glyph_mass fonts K size g) 1
  glyph-load g h =
      let f = font-in frame.good g.font h.font in
      let small = glyph-small (K * 2) (beyond fonts g) g.width size (font_at fonts g.font).units (divided g h) h.width f.some f.few sized in
      record {
        reads = glyph-size (K * 2) (beyond fonts g) g.width size (font_at fonts g.font).units (divided g h) h.width f.some f.few sized;
        absorbs = glyph-absorbs (K * 2) (beyond fonts g) g.width size (font_at fonts g.font).units (divided g h) h.width f.some f.few sized;
        small = omega arith;
      }

  -- ---- a cluster's glyphs

  glyph-terms : {gs : List Glyph} → All (GlyphIn fonts) gs
      → Terms D S (K * 2) (glyph_advance rounded fonts size) (glyph_advance exact fonts size) gs gs (glyphs_mass fonts K size gs) (19 * glyphs_mass fonts K size gs) (length gs)
  glyph-terms All.none = none
  glyph-terms (All.more {x = g} {xs = gs} h hs) =
      more (glyphs_mass fonts K size (g ∷ gs)) (19 * glyphs_mass fonts K size (g ∷ gs)) (glyph-track g h) (glyph-terms hs) (le_refl (glyphs_mass fonts K size (g ∷ gs))) (omega arith)

  -- added up from a load that is there
  pub glyphs-load : {q : Frac} {m c : ℕ} {gs : List Glyph} → Load D q m c → All (GlyphIn fonts) gs
      → Load D (foldl (λ (t : Frac) (a : Glyph). t +ᵠ absᵠ (glyph_advance exact fonts size a)) q gs) (m + glyphs_mass fonts K size gs) (c + length gs)
  glyphs-load {m = m} {c = c} l All.none = load-as (omega arith) (omega arith) l
  glyphs-load {q = q} {m = m} {c = c} l (All.more {x = g} {xs = gs} h hs) =
      load-as (omega arith) (omega arith) (glyphs-load {q = q +ᵠ absᵠ (glyph_advance exact fonts size g)} (load-add l (glyph-load g h)) hs)

  -- ---- step 2
  module _ {gs : List Glyph} (ins : All (GlyphIn fonts) gs) (few : length gs ≤ 1024) where
    fits : glyphs_mass fonts K size gs ≤ S
    fits = go (unit * D) (glyphs-load (load-zero D) ins).small frame.scale.large
      where
        go : (z : ℕ) → 0 + glyphs_mass fonts K size gs ≤ (0 + length gs) * (2 ^ 28 * z) → 2 ^ 50 * z ≤ S → glyphs_mass fonts K size gs ≤ S
        go z h k = omega (arith, mul-le-mul_right (2 ^ 28 * z) few)

    pub advance-track : Track D S (K * 2) (sum_advance rounded fonts size gs) (sum_advance exact fonts size gs) (glyphs_mass fonts K size gs) ((19 + 9 * length gs) * glyphs_mass fonts K size gs)
    unfolding sum_advance
    advance-track =
        track-as (costs (glyphs_mass fonts K size gs) (length gs)) (track-sum frame.scale (glyph-terms ins) (room (glyphs_mass fonts K size gs) (mul-le-mul_right (glyphs_mass fonts K size gs) few)) fits)
      where
        costs : (m n : ℕ) → 19 * m + 9 * (n * m) ≡ (19 + 9 * n) * m
        costs m n = omega arith

        room : (m : ℕ) → length gs * m ≤ 1024 * m → 19 * m + 9 * (length gs * m) ≤ 2 ^ 24 * m
        room m h = omega arith

    pub width-track : Track D S (K * 2) (max_advance rounded fonts size gs) (max_advance exact fonts size gs) (glyphs_mass fonts K size gs) (19 * glyphs_mass fonts K size gs)
    unfolding max_advance
    width-track =
        track-maximum (track-zero frame.scale (K * 2) (glyphs_mass fonts K size gs) (19 * glyphs_mass fonts K size gs))
        (terms-each (glyphs_mass fonts K size gs) (19 * glyphs_mass fonts K size gs) (le_refl (glyphs_mass fonts K size gs)) (le_refl (19 * glyphs_mass fonts K size gs)) (glyph-terms ins))
