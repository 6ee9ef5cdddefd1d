-- Glyph rows put one after the other: the next one, and the end. Assumes nothing.
use Prim.Native.Nat.{ℕ, suc, ◌+◌, ◌*◌, ◌≤◌, ◌<◌}
use mathlib.Core.Path.{◌≡◌, refl, sym, ap, ◌∙◌}
use mathlib.Core.Bool.{true}
use mathlib.Core.List.{List, [], ◌∷◌, ◌++◌, flat_map}
use native.Mathlib.Numerals.{add-one}
use native.Mathlib.Omega.{arith}
use lib.ListN.{length, get_or, drop, length-map, drop_of_length-le}
use lib.Seq.{drop-cons}
use lib.Ieee.{Float, binary32, of_int}
use Rattle.spec.specs.declared.Glyph.{Glyph}
use Rattle.spec.specs.Single.{◌+ᶠ◌, +0}
use Rattle.spec.specs.Decode.{glyph_of}
use Rattle.spec.specs.Answer.{glyph_row_bytes, glyph_row_size}
use Rattle.spec.specs.Layout.{glyph_rows}
use Rattle.spec_laws.proofs.All.{all-at}
use Rattle.spec_laws.proofs.AnswerLength.{length-glyph_row, length-equal}
use Rattle.job_rows.specs.Rows.{glyphs_at}
use Rattle.job_rows.proofs.ByNumber.{map-in}
use Rattle.wire.specs.Splice.{splice}
use Rattle.answer_rows.specs.Glyphs.{glyph_row, units_of, units_in}
use Rattle.answer_rows.proofs.Puts.{Putting, put-room, put-turn, put-done}

-- ---- the glyph that is read at place i is the next

module _ (s places : List ℕ) where
  pub glyphs-count : length (glyphs_at s places) ≡ length places
  unfolding glyphs_at
  glyphs-count = length-map places _

  module _ (i at : ℕ) (e : at ≡ get_or places i 0) (h : i < length places) where
    abbrev here : Glyph
    here = glyph_of (drop at s)

    is_here : get_or (glyphs_at s places) i here ≡ here
    unfolding glyphs_at
    is_here = map-in (λ (at : ℕ). glyph_of (drop at s)) places i 0 here h ∙ ap (λ (at : ℕ). glyph_of (drop at s)) (sym e)

    within : i < length (glyphs_at s places)
    within = rw glyphs-count h

    pub glyph-here : drop i (glyphs_at s places) ≡ here ∷ drop (i + 1) (glyphs_at s places)
    glyph-here = rw (add-one, drop-cons (glyphs_at s places) i here within) (ap (λ (g : Glyph). g ∷ drop (suc i) (glyphs_at s places)) is_here)

    pub units-here : units_in (glyphs_at s places) ≡ true → units_of here ≡ true
    units-here ok = rw is_here at (all-at units_of (glyphs_at s places) i here ok within)

  pub no-glyph : (i : ℕ) → length places ≤ i → drop i (glyphs_at s places) ≡ []
  no-glyph i h = drop_of_length-le (glyphs_at s places) {i = i} (rw glyphs-count h)

-- ---- how long they are

pub count-glyph_rows : (x : Float) (gs : List Glyph) → length (glyph_rows x gs) ≡ length gs
unfolding glyph_rows
count-glyph_rows x [] = refl
count-glyph_rows x (g ∷ gs) = ap suc (count-glyph_rows (x +ᶠ of_int binary32 g.width) gs)

pub length-glyph_rows : (x : Float) (gs : List Glyph) → length (flat_map glyph_row_bytes (glyph_rows x gs)) ≡ glyph_row_size * length gs
length-glyph_rows x gs = length-equal glyph_row_bytes glyph_row_size length-glyph_row (glyph_rows x gs) ∙ ap (λ (n : ℕ). glyph_row_size * n) (count-glyph_rows x gs)

-- ---- `left` are still to be put, and the widths before them add up to x

module _ (gs : List Glyph) where
  abbrev pub GlyphsLeft : List ℕ → ℕ → List ℕ → ℕ → Float → List Glyph → Type 0
  GlyphsLeft old at out here x left = Putting old at (flat_map glyph_row_bytes (glyph_rows +0 gs)) out here (flat_map glyph_row_bytes (glyph_rows x left))

  module _ {old : List ℕ} {at : ℕ} {out : List ℕ} {here : ℕ} (x : Float) {left rest : List Glyph} {g : Glyph} (e : left ≡ g ∷ rest) (p : GlyphsLeft old at out here x left) where
    next : flat_map glyph_row_bytes (glyph_rows x left) ≡ glyph_row_bytes (glyph_row x g) ++ flat_map glyph_row_bytes (glyph_rows (x +ᶠ of_int binary32 g.width) rest)
    unfolding flat_map glyph_rows
    next = rw e

    pub glyph-room : here + glyph_row_size ≤ length out
    glyph-room = omega (arith, length-glyph_row (glyph_row x g), put-room p (glyph_row_bytes (glyph_row x g)) _ next)

    pub glyph-turn : {x' : Float} {out' : List ℕ} {here' : ℕ} → out' ≡ splice out here (glyph_row_bytes (glyph_row x g)) → x' ≡ x +ᶠ of_int binary32 g.width → here' ≡ here + glyph_row_size
        → GlyphsLeft old at out' here' x' rest
    glyph-turn eo ex eh = rw ex (put-turn p (glyph_row_bytes (glyph_row x g)) _ next eo (omega (arith, length-glyph_row (glyph_row x g))))

  pub glyphs-done : {old : List ℕ} {at : ℕ} {out : List ℕ} {here : ℕ} (x : Float) {left : List Glyph} → left ≡ [] → GlyphsLeft old at out here x left
      → (out ≡ splice old at (flat_map glyph_row_bytes (glyph_rows +0 gs))) × (here ≡ at + length (flat_map glyph_row_bytes (glyph_rows +0 gs)))
  unfolding flat_map glyph_rows
  glyphs-done x e p = put-done p (rw e)
