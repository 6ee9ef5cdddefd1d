-- `position::shifts::rotate_shifts` meets its contract. The loop's invariant: the clusters before the index are turned. Assumes nothing.
use mathlib.Core.Path.{◌≡◌}
use mathlib.Core.List.{◌++◌, map}
use lib.ListN.{take, drop}
use Rattle.spec.specs.Position.{rotate_shift}
use Rattle.spec.specs.Cluster.{rounded}
use Rattle.position.proofs.shifts.rotate_shifts.Given as goal

abbrev pub invariant-loop-c : goal.invariant-loop-c
invariant-loop-c l = l.clusters ≡ map (rotate_shift rounded) (take l.c-index l.initial.clusters) ++ drop l.c-index l.initial.clusters
