-- `length_adjust::keys::first_key` meets its contract. Assumes nothing.
use Prim.Native.Nat.{ℕ, ◌/◌}
use lib.Dec.{ltb}
use Rattle.std.proofs.Common.{rules}
use Rattle.std.proofs.lemmas.List.Sorted.{IsPartitionPoint-from_clause}
use Rattle.sort.proofs.Ascending.{ascends-of-ascending}
use Rattle.length_adjust.proofs.Passed.{parted, below-point}
use Rattle.length_adjust.proofs.keys.first_key.Goals as goal

pub returns : goal.returns
returns c =
    let b = c.args.b in
    let keys = c.args.keys.now in
    let up = ascends-of-ascending keys c.requires in
    let point = c.partition_point in (
      below-point b up point.result point.ensures.bound
          (IsPartitionPoint-from_clause (λ (key : ℕ). ltb (key / 65536) b) keys point.result point.ensures.partitioned (parted b up) (λ a r f k. search rules)),
      point.ensures.bound,
    )
