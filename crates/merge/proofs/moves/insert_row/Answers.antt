-- `merge::moves::insert_row` meets its contract. Assumes nothing.
use native.Mathlib.Omega.{arith}
use Prim.Native.Nat.{◌+◌}
use Rattle.merge.proofs.Moved.{row-inserted, glyphs-inserted}
use Rattle.merge.proofs.moves.insert_row.Goals as goal

pub returns : goal.returns
returns c =
    let a = c.args in
    λ s. glyphs-inserted s _ a.rows.now (a.count + 1) a.count a.at a.row (omega arith)
    (rw c.copy_within.ensures.after (row-inserted a.rows.now a.count a.at a.row (omega arith) (omega arith)))
