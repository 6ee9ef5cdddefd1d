-- `length_adjust::find::find_clusters` meets its contract. Assumes nothing.
use Prim.Native.Nat.{◌+◌, ◌/◌, ◌≤◌}
use mathlib.Core.Path.{◌≡◌}
use lib.ListN.{length}
use Rattle.sort.proofs.Ascending.{Ascends}
use Rattle.spec.specs.Lists.{All}
use Rattle.length_adjust.specs.Marks.{mark, found, bytes_to}
use Rattle.length_adjust.proofs.find.find_clusters.Given as goal

-- the keys that are left are not below the next byte; so many bytes are left, and what is found there
abbrev pub invariant-loop-key : goal.invariant-loop-key
invariant-loop-key l =
    let n = length l.fn.marks in
    let at = l.start + l.looked in
    let left = bytes_to at l.rest in
    (length l.rest ≤ length l.fn.keys) × Ascends l.rest × All (λ key. at ≤ key / 65536) l.rest × (l.looked + left ≡ bytes_to l.start l.fn.keys)
    × (mark l.marks (found n l.rest at left) ≡ mark l.fn.marks (found n l.fn.keys l.start (bytes_to l.start l.fn.keys)))

abbrev pub decreases-loop-key : goal.decreases-loop-key
decreases-loop-key l = bytes_to (l.start + l.looked) l.rest
