-- `layout::chunks::layout_chunks` meets its contract. Assumes nothing.
use Prim.Native.Nat.{◌-◌}
use Rattle.layout.proofs.ChunksLeft.{Laying}
use Rattle.layout.proofs.chunks.layout_chunks.Given as goal

abbrev pub invariant-loop : goal.invariant-loop
invariant-loop l = Laying l.s l.job l.initial.out l.out l.before l.at (l.end - l.counter)
