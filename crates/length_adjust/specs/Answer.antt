-- What step 6 answers, with the clusters that it leaves. Definitions only.
use Rattle.std.specs.Prelude.{List, Ok, Err}
use Rattle.std.specs.declared.result.Result.{Result}
use Rattle.spec.specs.Outcome.{Outcome, refused, given}
use Rattle.spec.specs.declared.Cluster.{Cluster}
use Rattle.spec.specs.declared.Refusal.{Refusal}
use Rattle.spec.specs.Refusal.{refusal_number}

unfoldable pub adjusted_of : Result (Unit {0}) Refusal → List Cluster → Outcome (List Cluster)
adjusted_of (Ok done) cs = given cs
adjusted_of (Err r) cs = refused (refusal_number r)
