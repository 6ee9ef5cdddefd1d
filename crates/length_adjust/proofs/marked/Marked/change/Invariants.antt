-- `length_adjust::marked::Marked::change` meets its contract. Assumes nothing.
use mathlib.Core.Path.{◌≡◌}
use mathlib.Core.List.{foldl}
use Rattle.spec.specs.Lists.{modify}
use Rattle.spec.specs.declared.Cluster.{Cluster}
use Rattle.length_adjust.specs.Marks.{marked_in}
use Rattle.length_adjust.proofs.Walks.{walked}
use Rattle.length_adjust.proofs.marked.Marked.change.Given as goal

abbrev pub invariant-loop-i : goal.invariant-loop-i
invariant-loop-i g l =
    goal.F-IsAlwaysCallable g l.f
    × ((h : Cluster → Cluster) → ((c r : Cluster) → goal.F-post g l.f c r → r ≡ h c)
    → walked (modify h) l.clusters l.fn.self.marks.now l.fn.self.within.to l.i ≡ foldl (modify h) l.initial.clusters (marked_in l.fn.self.within l.fn.self.marks.now))
