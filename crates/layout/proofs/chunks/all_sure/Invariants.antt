-- `layout::chunks::all_sure` meets its contract. Assumes nothing.
use Prim.Native.Nat.{◌-◌}
use Rattle.layout.proofs.Straight.{Asking}
use Rattle.layout.proofs.chunks.all_sure.Given as goal

abbrev pub invariant-loop : goal.invariant-loop
invariant-loop l = Asking l.s l.initial.at l.end l.at (l.end - l.counter)
