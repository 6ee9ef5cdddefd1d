-- `wire::write::put_number` meets its contract. The loop's invariant: the buffer with the bytes that are left is the buffer with them all.
-- Assumes nothing.
use mathlib.Core.Path.{◌≡◌}
use Rattle.spec.specs.Bytes.{bytes}
use Rattle.wire.specs.Splice.{splice}
use Rattle.wire.proofs.write.put_number.Given as goal

abbrev pub invariant-loop-i : goal.invariant-loop-i
invariant-loop-i l = splice l.out l.at (bytes l.i l.rest) ≡ splice l.initial.out l.at (bytes l.width l.n)
