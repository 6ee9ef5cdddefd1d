-- `length_adjust::marked::Marked::taken` meets its contract. Assumes nothing.
use Prim.Native.Nat.{◌≤◌}
use mathlib.Core.Path.{◌≡◌}
use Rattle.length_adjust.specs.Marks.{marked_in}
use Rattle.length_adjust.specs.Sums.{taken_at}
use Rattle.length_adjust.proofs.Walks.{walked, add-taken, one_more}
use Rattle.length_adjust.proofs.marked.Marked.taken.Given as goal

abbrev pub invariant-loop-i : goal.invariant-loop-i
invariant-loop-i l =
    let all = taken_at l.span l.clusters (marked_in l.fn.self.within l.fn.self.marks.now) in
    (l.count ≤ l.i) × (walked (add-taken l.span l.clusters) l.sum l.fn.self.marks.now l.fn.self.within.to l.i ≡ all.sum) × (walked one_more l.count l.fn.self.marks.now l.fn.self.within.to l.i ≡ all.count)
