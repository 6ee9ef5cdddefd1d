-- `job_checks::walk::all_pass` meets its contract. The loop's invariant: whether each record passes is whether each of those left does. Assumes nothing.
use Prim.Native.Nat.{ℕ}
use mathlib.Core.Bool.{Bool}
use mathlib.Core.List.{List}
use mathlib.Core.Path.{◌≡◌}
use Rattle.std.specs.Fn.{FnReturnsAt}
use Rattle.spec.specs.Bytes.{all_records}
use Rattle.job_checks.specs.Walk.{Tests}
use Rattle.job_checks.proofs.walk.all_pass.Given as goal

abbrev pub invariant-loop-left : goal.invariant-loop-left
invariant-loop-left g l =
    (test : List ℕ → Bool) → Tests (FnReturnsAt g.F.Fn l.fn.passes) test → all_records g.R.Record.size test l.left l.rest ≡ all_records g.R.Record.size test l.n l.records
