-- `baseline::shift::resolve_baseline_shift` meets its contract. The loop's invariant: with the first k shifts the sum is that of them all. Assumes nothing.
use mathlib.Core.Path.{◌≡◌}
use Rattle.spec.specs.Single.{+0}
use Rattle.spec.specs.Decode.{shift_bytes, shift_of}
use Rattle.baseline.proofs.Backwards.{added}
use Rattle.baseline.proofs.Shifts.{add_shift}
use Rattle.baseline.proofs.shift.resolve_baseline_shift.Given as goal

abbrev pub invariant-loop-k : goal.invariant-loop-k
invariant-loop-k l = added shift_bytes shift_of (add_shift l.font l.size) l.k l.shifts l.sum ≡ added shift_bytes shift_of (add_shift l.font l.size) l.n l.shifts +0
