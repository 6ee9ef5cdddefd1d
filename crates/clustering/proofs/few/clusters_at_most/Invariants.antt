-- `clustering::few::clusters_at_most` meets its contract: the clusters so far and those of the groups that are left are all of them. Assumes nothing.
use Prim.Native.Nat.{◌-◌, ◌≤◌}
use lib.ListN.{length}
use Rattle.clustering.proofs.LoopSteps.{Counted}
use Rattle.clustering.proofs.few.clusters_at_most.Given as goal

abbrev pub invariant-loop-i : goal.invariant-loop-i
invariant-loop-i l =
    (l.n ≤ l.most) × Counted l.s l.spans l.merged l.n l.i

abbrev pub decreases-loop-i : goal.decreases-loop-i
decreases-loop-i l = length l.merged - l.i
