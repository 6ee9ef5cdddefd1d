-- In a still job the clusters that are turned have one shift, and placed they are those of step 7. Assumes nothing.
use Prim.Native.Nat.{ℕ, ◌<◌}
use mathlib.Core.Path.{◌≡◌, refl, sym, ◌∙◌}
use mathlib.Core.Bool.{Bool, true, ◌&&◌}
use mathlib.Core.List.{List, [], ◌∷◌}
use lib.ListN.{length, drop, get_or}
use Rattle.spec_laws.proofs.All.{and_left, and_right}
use Rattle.spec_laws.specs.Unmoved.{Unmoved}
use Rattle.spec_laws.proofs.StillJob.{turned-alike, unmoved-placed}
use Rattle.spec.specs.Lists.{is_empty, All}
use Rattle.spec.specs.Single.{+0}
use Rattle.spec.specs.declared.Cluster.{Cluster}
use Rattle.spec.specs.Position.{positioned, rotate_shifts}
use Rattle.spec.specs.Cluster.{rounded}
use Rattle.spec.specs.Layout.{resolve_clusters_positions_horizontal}
use Rattle.job_rows.specs.Head.{head_of}
use Rattle.position.specs.declared.Positioned.{Positioned}
use Rattle.position.specs.Given.{EndsKnown, Placed}
use Rattle.position.proofs.Ends.{alike-ended}
use Rattle.text_order.proofs.Keys.{blank}
use Rattle.chunk.specs.declared.progress.NextChunk.{NextChunk}
use Rattle.chunk.specs.Steps.{chunk_in, job_in}
use Rattle.chunk.specs.Placing.{is_still}
use Rattle.chunk.proofs.Placed.{anchor-is}

none_in : {A : Type 0} (xs : List A) → is_empty xs ≡ true → xs ≡ []
unfolding is_empty
none_in [] e = refl
none_in (x ∷ xs) e = cc

-- any cluster has the shift of the first and the last
pub still-ended : (mode : ℕ) {cs turned : List Cluster} → All Unmoved cs → turned ≡ rotate_shifts rounded mode cs → 0 < length turned
    → EndsKnown (get_or turned 0 blank) (get_or turned 0 blank) turned
still-ended mode k e h = let alike = turned-alike mode k in alike-ended {x = +0} {y = alike.0} blank (rw e alike.1) h

pub still_placed : (s : List ℕ) (next : NextChunk) {b : Bool} → b ≡ is_still (job_in s next) → b ≡ true
    → {cs turned placed : List Cluster} {anchor : ℕ} {r : Positioned} → All Unmoved cs → anchor ≡ (head_of (drop next.at s)).anchor
    → turned ≡ rotate_shifts rounded next.job.mode cs → Placed (positioned rounded anchor turned) placed r
    → Placed (resolve_clusters_positions_horizontal (job_in s next) next.before.offset (chunk_in s next) cs) placed r
still_placed s next told is k ea et p =
    let job = job_in s next in
    let still : is_still job ≡ true = sym told ∙ is in
    let lists = and_left (is_empty job.dx && is_empty job.dy) (is_empty job.rotate) still in
    let dx = none_in job.dx (and_left (is_empty job.dx) (is_empty job.dy) lists) in
    let dy = none_in job.dy (and_right (is_empty job.dx) (is_empty job.dy) lists) in
    let rotate = none_in job.rotate (and_right (is_empty job.dx && is_empty job.dy) (is_empty job.rotate) still) in
    rw (unmoved-placed job dx dy rotate next.before.offset (chunk_in s next) k, anchor-is s next, ← ea, ← et) p
