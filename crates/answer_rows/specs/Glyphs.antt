-- The row of one glyph, and which glyphs can be written. Definitions only.
use Rattle.std.specs.Prelude.{Bool, ◌&&◌, List, neg_ℤ, Float}
use Rattle.std.specs.Float.{binary32}
use Rattle.std.specs.Float.Ieee.{of_int}
use Rattle.spec.specs.declared.Glyph.{Glyph}
use Rattle.spec.specs.Single.{◌+ᶠ◌}
use Rattle.spec.specs.Lists.{all}
use Rattle.spec.specs.Check.{units_ok}
use Rattle.spec.specs.Answer.{GlyphRow}

-- of a glyph before which the widths add up to x
abbrev pub glyph_row : Float → Glyph → GlyphRow
glyph_row x g = record { id = g.id; font = g.font; x = x +ᶠ of_int binary32 g.dx; y = of_int binary32 (neg_ℤ g.dy) }

-- every distance is within its bounds, as in a checked job: of a glyph, and of some
abbrev pub units_of : Glyph → Bool
units_of g = units_ok g.dx && (units_ok g.dy && units_ok g.width)

abbrev pub units_in : List Glyph → Bool
units_in gs = all units_of gs
