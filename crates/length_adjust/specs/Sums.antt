-- What a walk over marked clusters adds up. Definitions only.
use Rattle.std.specs.Prelude.{ℕ, List, length}
use Rattle.spec.specs.declared.Span.{Span}
use Rattle.spec.specs.declared.Cluster.{Cluster}
use Rattle.spec.specs.LengthAdjust.{sum_at, taken_of}
use Rattle.spec.specs.Cluster.{rounded}
use Rattle.length_adjust.specs.declared.walk.Total.{Total}

-- what is brought to the span's length at the places, added up, and how many they are
abbrev pub taken_at : Span → List Cluster → List ℕ → Total
taken_at s cs is = record { sum = sum_at rounded (taken_of rounded s) cs is; count = length is }
