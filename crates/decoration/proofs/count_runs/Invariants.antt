-- `decoration::count_runs` meets its contract. Assumes nothing.
use Rattle.decoration.proofs.Runs.{Walked}
use Rattle.decoration.proofs.count_runs.Given as goal

abbrev pub invariant-loop-i : goal.invariant-loop-i
invariant-loop-i l = Walked l.span l.clusters l.i l.o
