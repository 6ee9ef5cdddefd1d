-- `wire::read::number_of` meets its contract. The loop's invariant: what was read is the number that the bytes so far hold. Assumes nothing.
use Prim.Native.Nat.{◌^◌, ◌<◌}
use mathlib.Core.Path.{◌≡◌}
use Rattle.spec.specs.Bytes.{be}
use Rattle.wire.proofs.read.number_of.Given as goal

abbrev pub invariant-loop-byte : goal.invariant-loop-byte
invariant-loop-byte l = (l.n ≡ be l.byte-index l.bytes) × (l.n < 256 ^ l.byte-index)
