-- `wire::read::pad` meets its contract. The loop's invariant: the first i bytes of the buffer are the row's, padded. Assumes nothing.
use mathlib.Core.Path.{◌≡◌}
use lib.ListN.{take}
use Rattle.wire.specs.Padded.{padded_of}
use Rattle.wire.proofs.read.pad.Given as goal

abbrev pub invariant-loop-i : goal.invariant-loop-i
invariant-loop-i l = take l.i l.out ≡ padded_of l.i l.row
