-- `job_checks::order::spans_ordered` meets its contract. The loop's invariant: whether all spans stand in order is whether those left do, behind the previous end. Assumes nothing.
use mathlib.Core.Path.{◌≡◌}
use Rattle.spec.specs.Bytes.{rows}
use Rattle.spec.specs.Decode.{span_size, span_of}
use Rattle.spec.specs.Check.{ordered}
use Rattle.job_checks.proofs.order.spans_ordered.Given as goal

abbrev pub invariant-loop-left : goal.invariant-loop-left
invariant-loop-left l =
    ordered l.length l.previous (rows span_size span_of l.left l.span) ≡ ordered l.length 0 (rows span_size span_of l.n l.spans)
