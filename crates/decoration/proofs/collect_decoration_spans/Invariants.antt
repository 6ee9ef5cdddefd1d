-- `decoration::collect_decoration_spans` meets its contract. Assumes nothing.
use Rattle.decoration.proofs.Runs.{Written}
use Rattle.decoration.proofs.collect_decoration_spans.Given as goal

abbrev pub invariant-loop-i : goal.invariant-loop-i
invariant-loop-i l = Written l.span l.clusters l.initial.out l.at l.i l.o l.out
