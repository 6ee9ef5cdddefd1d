-- Spans that have a text length, and a chunk that is sure to be laid out. Definitions only.
use Rattle.std.specs.Prelude.{◌+◌, Bool, cond, not, ◌&&◌, length, leb, eqb}
use Rattle.spec.specs.Lists.{any}
use Rattle.spec.specs.declared.Span.{Span}
use Rattle.spec.specs.Job.{Chunk, spans_of, has_length, adjust_spacing_and_glyphs}
use Rattle.merge.specs.Source.{glyph_span}

-- the span's glyphs are stretched to a text length
abbrev pub stretches : Span → Bool
stretches s = has_length s && eqb s.adjust adjust_spacing_and_glyphs

-- the span has a text length, and where that is asked for, its glyphs are stretched to it
abbrev pub length_asked : Bool → Span → Bool
length_asked stretched s = cond stretched (stretches s) (has_length s)

-- no more than one span has glyphs, so that the merge meets neither 7 nor 8; and none is stretched, so that 9 is not met
unfoldable pub sure : Chunk → Bool
sure c = let ps = c.parts in leb (length ps) (glyph_span ps (glyph_span ps 0 + 1)) && not (any stretches (spans_of c))
