-- What a span row is made of. Definitions only.
use Rattle.std.specs.Prelude.{ℕ, Bool, not, cond, eqb, Float, length}
use mathlib.Core.List.{List, [], ◌∷◌, ◌++◌, flat_map}
use Rattle.spec.specs.Bytes.{bytes, float_bytes}
use Rattle.spec.specs.Job.{SpanParts, no_font}
use Rattle.spec.specs.declared.Cluster.{Cluster}
use Rattle.spec.specs.Decoration.{collect_decoration_spans}
use Rattle.spec.specs.Answer.{SpanRow, span_row_size}

-- a row's floats, as they are written
abbrev pub row_floats : SpanRow → List Float
row_floats s = s.x ∷ s.y ∷ s.baseline ∷ s.thickness ∷ s.under ∷ s.over ∷ s.through ∷ []

-- what comes before a row's runs: the index, the floats, and how many runs there are
abbrev pub span_head_bytes : ℕ → List Float → ℕ → List ℕ
span_head_bytes k values runs = bytes 1 k ++ (flat_map float_bytes values ++ bytes 2 runs)

-- the span has a row
abbrev pub has_row : SpanParts → Bool
has_row p = not (eqb p.span.font no_font)

-- how many bytes the span's row has, or 0 if it has none
unfoldable pub span_size : List Cluster → SpanParts → ℕ
span_size cs p = cond (has_row p) (span_row_size (length (collect_decoration_spans p.span cs))) 0
