-- Clusters that can be put in text order by their keys, and those whose keys are in it. Definitions only.
use Rattle.std.specs.Prelude.{ℕ, ◌≤◌, ◌≡◌, true, List, map, length, take, ltb}
use Rattle.spec.specs.Lists.{all}
use Rattle.spec.specs.declared.Cluster.{Cluster}
use Rattle.spec.specs.Arithmetic.{indexes}
use Rattle.spec.specs.Cluster.{rounded}
use Rattle.spec.specs.Position.{logical_order}
use Rattle.text_order.specs.Keys.{key_of}

-- there is space for the keys of the clusters, and a place and a byte index have room in a key
pub record Sortable (order : List ℕ) (clusters : List Cluster) : Type 0 where
  pub count : length clusters ≤ length order
  pub few : length clusters ≤ 65536
  pub indexes : all (λ (i : ℕ). ltb i 65536) (indexes rounded clusters) ≡ true

-- the first keys are those of the clusters in text order, and a place has room in a key
pub record Ordered (order : List ℕ) (clusters : List Cluster) : Type 0 where
  pub count : length clusters ≤ length order
  pub few : length clusters ≤ 65536
  pub keys : take (length clusters) order ≡ map key_of (logical_order (indexes rounded clusters))
