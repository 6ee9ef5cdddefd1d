-- What the stages of step 6 are given. Definitions only.
use Rattle.std.specs.Prelude.{ℕ, ◌≤◌, List, length}
use Rattle.spec.specs.declared.Cluster.{Cluster}
use Rattle.text_order.specs.Ordered.{Ordered}

-- each of the clusters has its key in text order, and a mark
pub record Adjustable (order marks : List ℕ) (clusters : List Cluster) : Type 0 where
  pub ordered : Ordered order clusters
  pub marked : length clusters ≤ length marks
