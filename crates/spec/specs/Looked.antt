-- Step 6 reports how many bytes it looked at; no record has the number. Definitions only.
use Rattle.std.specs.Prelude.{ℕ, ◌+◌, ◌-◌, max, cond, List, [], ◌∷◌}
use Rattle.spec.specs.Lists.{any}
use Rattle.spec.specs.Outcome.{Outcome, refused, given}
use Rattle.spec.specs.Job.{Span, has_length}
use Rattle.spec.specs.Merge.{span_contains}
use Rattle.spec.specs.Arithmetic.{indexes}
use Rattle.spec.specs.Cluster.{Cluster, rounded}
use Rattle.spec.specs.LengthAdjust.{adjust_span}

-- ---- of one span, from the byte indexes of all clusters

-- the highest that the span covers
unfoldable pub highest : Span → List ℕ → ℕ
highest s [] = 0
highest s (i ∷ is) = let rest = highest s is in cond (span_contains s i) (max i rest) rest

-- none where the span has no cluster, else the highest index of its clusters less its start, plus 1
unfoldable pub bytes_looked : Span → List ℕ → ℕ
bytes_looked s is = cond (any (span_contains s) is) (highest s is - s.start + 1) 0

-- ---- where the spans are adjusted

-- only a span with a text length is looked at
unfoldable pub span_looked : Outcome (List Cluster) → Span → ℕ
span_looked (refused n) s = 0
span_looked (given cs) s = cond (has_length s) (bytes_looked s (indexes rounded cs)) 0

-- all together; after a refusal there is none
unfoldable pub spans_looked : Outcome (List Cluster) → List Span → ℕ
spans_looked o [] = 0
spans_looked o (s ∷ spans) = span_looked o s + spans_looked (adjust_span o s) spans
