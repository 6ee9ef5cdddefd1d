-- `position::line_extent::extent_of` meets its contract. The loop's invariant: the extent, once the clusters from the index on are counted, is
-- that of the definition. Assumes nothing.
use mathlib.Core.Path.{◌≡◌}
use mathlib.Core.List.{foldl}
use lib.ListN.{drop}
use Rattle.spec.specs.Position.{extent_next, extent_of}
use Rattle.spec.specs.Cluster.{rounded}
use Rattle.position.specs.Given.{extent_in}
use Rattle.position.proofs.line_extent.extent_of.Given as goal

abbrev pub invariant-loop-c : goal.invariant-loop-c
invariant-loop-c l = foldl (extent_next rounded) (extent_in l.e) (drop l.c-index l.clusters) ≡ extent_of rounded l.clusters
