-- What the stages of step 7 are given beside the clusters, and what they return. Definitions only.
use Rattle.std.specs.Prelude.{ℕ, ◌≤◌, ◌<◌, ◌≡◌, List, map, length, take, Float}
use Rattle.spec.specs.declared.Cluster.{Cluster}
use Rattle.spec.specs.Job.{Job, Chunk}
use Rattle.spec.specs.Lists.{get_map_or}
use Rattle.spec.specs.Single.{+0}
use Rattle.spec.specs.Arithmetic.{indexes}
use Rattle.spec.specs.Cluster.{rounded}
use Rattle.spec.specs.Position as labels
use Rattle.spec.specs.Position.{Entry, logical_order, first_place, last_place, character_number}
use Rattle.spec.specs.Layout.{resolve_clusters_positions_horizontal}
use Rattle.position.specs.declared.Extent.{Extent}
use Rattle.position.specs.declared.Positioned.{Positioned}

-- the first numbers are those of the clusters' characters
abbrev pub CharacterNumbersOf : List ℕ → ℕ → List ℕ → List Cluster → Type 0
CharacterNumbersOf text offset numbers cs = take (length cs) numbers ≡ map (character_number text offset) (indexes rounded cs)

-- there is at least one cluster, and each has the number of its character
pub record Placeable (numbers : List ℕ) (cs : List Cluster) : Type 0 where
  pub some : 0 < length cs
  pub numbered : length cs ≤ length numbers

-- the clusters' text order
abbrev pub order_of : List Cluster → List Entry
order_of cs = logical_order (indexes rounded cs)

-- there is at least one cluster, and two have the shifts of the first and the last of them in text order
pub record EndsKnown (first last : Cluster) (cs : List Cluster) : Type 0 where
  pub some : 0 < length cs
  pub first_x : get_map_or +0 (λ (c : Cluster). c.x) cs (first_place (order_of cs)) ≡ first.x
  pub last_x : get_map_or +0 (λ (c : Cluster). c.x) cs (last_place (order_of cs)) ≡ last.x
  pub last_y : get_map_or +0 (λ (c : Cluster). c.y) cs (last_place (order_of cs)) ≡ last.y

abbrev pub extent_in : Extent → labels.Extent Float
extent_in e = record { left = e.left; right = e.right; advance = e.advance }

-- the clusters and what is returned are those that the definition gives
pub record Placed (p : labels.Positioned Float Cluster) (cs : List Cluster) (r : Positioned) : Type 0 where
  pub clusters : cs ≡ p.clusters
  pub extent : r.extent ≡ p.extent
  pub end_x : r.end_x ≡ p.end_x
  pub end_y : r.end_y ≡ p.end_y

-- so are they in step 7 of the job, for every chunk of this anchor whose clusters' characters have these numbers
abbrev pub PlacedChunk : Job → ℕ → List ℕ → List Cluster → List Cluster → Positioned → Type 0
PlacedChunk job anchor numbers cs placed r =
    (offset : ℕ) (chunk : Chunk) → chunk.anchor ≡ anchor → CharacterNumbersOf chunk.text offset numbers cs
    → Placed (resolve_clusters_positions_horizontal job offset chunk cs) placed r
