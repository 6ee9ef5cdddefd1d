-- What steps 6 and 7 are given of a chunk, and the jobs in which step 7 moves no cluster. Definitions only.
use Rattle.std.specs.Prelude.{ℕ, ◌+◌, ◌≤◌, ◌<◌, ◌≡◌, Bool, ◌&&◌, List, length}
use Rattle.spec_laws.specs.Unmoved.{Unmoved}
use Rattle.spec.specs.Lists.{is_empty, All}
use Rattle.spec.specs.Job.{Job}
use Rattle.spec.specs.declared.Cluster.{Cluster}
use Rattle.text_order.specs.Ordered.{Sortable}
use Rattle.chunk.specs.declared.progress.NextChunk.{NextChunk}
use Rattle.chunk.specs.Steps.{chunk_in}

-- no list shifts or rotates a character
abbrev pub is_still : Job → Bool
is_still job = (is_empty job.dx && is_empty job.dy) && is_empty job.rotate

-- clusters as steps 2 to 5 leave them: they can be put in text order
pub record Unadjusted (spans order spare : List ℕ) (clusters : List Cluster) : Type 0 where
  pub few : length spans < 256
  pub spared : length clusters ≤ length spare
  pub sortable : Sortable order clusters

-- clusters, at least one, as steps 2 to 6 leave them: they can be put in text order, and none is moved. The text is the chunk's, and short
pub record Unplaced (s : List ℕ) (next : NextChunk) (text order spare : List ℕ) (clusters : List Cluster) : Type 0 where
  pub own : text ≡ (chunk_in s next).text
  pub short : next.before.offset + length text < 4_294_967_296
  pub some : 0 < length clusters
  pub spared : length clusters ≤ length spare
  pub sortable : Sortable order clusters
  pub unmoved : All Unmoved clusters
