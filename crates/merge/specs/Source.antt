-- Which spans of a chunk have glyphs. Definitions only.
use Rattle.std.specs.Prelude.{ℕ, ◌+◌, Bool, not, List, [], drop}
use Rattle.spec.specs.Lists.{is_empty, find_idx, get_map_or}
use Rattle.spec.specs.declared.Glyph.{Glyph}
use Rattle.spec.specs.Job.{SpanParts}

abbrev pub has_glyphs : SpanParts → Bool
has_glyphs p = not (is_empty p.glyphs)

-- the number of the first span from number k on that has glyphs; where none has, the number of spans, or k where that is past it
abbrev pub glyph_span : List SpanParts → ℕ → ℕ
glyph_span ps k = k + find_idx has_glyphs (drop k ps)

-- the glyphs of span number k; none past the last span
abbrev pub span_glyphs : List SpanParts → ℕ → List Glyph
span_glyphs ps k = get_map_or [] (λ (p : SpanParts). p.glyphs) ps k
