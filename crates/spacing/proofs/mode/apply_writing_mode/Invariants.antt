-- `spacing::mode::apply_writing_mode` meets its contract. The loop's invariant: the first clusters are turned. Assumes nothing.
use mathlib.Core.Path.{◌≡◌}
use mathlib.Core.List.{◌++◌, map}
use lib.ListN.{take, drop}
use Rattle.spec.specs.WritingMode.{vertical_metrics}
use Rattle.spacing.proofs.mode.apply_writing_mode.Given as goal

abbrev pub invariant-loop-c : goal.invariant-loop-c
invariant-loop-c l = l.clusters ≡ map vertical_metrics (take l.c-index l.initial.clusters) ++ drop l.c-index l.initial.clusters
