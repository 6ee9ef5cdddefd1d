-- `position::line::place_from` meets its contract. The loop's invariant: the clusters, once those from the index on are placed from x on, are
-- those of the definition, and so is x after the advances of these. Assumes nothing.
use mathlib.Core.Path.{◌≡◌}
use mathlib.Core.List.{foldl}
use lib.Ieee.{Float}
use lib.ListN.{drop}
use Rattle.spec.specs.declared.Cluster.{Cluster}
use Rattle.spec.specs.Single.{◌+ᶠ◌}
use Rattle.spec.specs.Position.{past_advance, placed_from}
use Rattle.spec.specs.Cluster.{rounded}
use Rattle.spec.proofs.Loops.{halfway}
use Rattle.position.proofs.line.place_from.Given as goal

abbrev pub standing : Float → Cluster → Cluster
standing p c = rounded.with_shift (p +ᶠ c.x) c.y c

abbrev pub invariant-loop-c : goal.invariant-loop-c
invariant-loop-c l =
    (halfway (past_advance rounded) standing l.x l.clusters l.c-index ≡ placed_from rounded l.start l.initial.clusters)
    × (foldl (past_advance rounded) l.x (drop l.c-index l.clusters) ≡ foldl (past_advance rounded) l.start l.initial.clusters)
