-- `length_adjust::adjust_spans` meets its contract. Assumes nothing.
use Prim.Native.Nat.{◌+◌, ◌*◌, ◌≤◌}
use mathlib.Core.Path.{◌≡◌}
use mathlib.Core.List.{foldl}
use lib.ListN.{drop}
use Rattle.spec.specs.Arithmetic.{indexes}
use Rattle.spec.specs.Cluster.{rounded}
use Rattle.spec.specs.Outcome.{given}
use Rattle.spec.specs.LengthAdjust.{adjust_span, apply_length_adjust}
use Rattle.spec.specs.Looked.{spans_looked}
use Rattle.job_rows.specs.Rows.{spans_in}
use Rattle.length_adjust.proofs.adjust_spans.Given as goal

abbrev pub invariant-loop-at : goal.invariant-loop-at
invariant-loop-at l =
    let spans = spans_in l.s l.spans in
    let left = drop l.at-index spans in
    (indexes rounded l.clusters ≡ indexes rounded l.initial.clusters)
    × (foldl adjust_span (given l.clusters) left ≡ apply_length_adjust spans l.initial.clusters)
    × (l.looked ≤ l.at-index * 65536)
    × (l.looked + spans_looked (given l.clusters) left ≡ spans_looked (given l.initial.clusters) spans)
