-- `merge::moves::remove_rows` meets its contract. Assumes nothing.
use native.Mathlib.Omega.{arith}
use Prim.Native.Nat.{◌+◌, ◌-◌}
use Rattle.merge.proofs.Moved.{rows-removed, glyphs-removed}
use Rattle.merge.proofs.moves.remove_rows.Goals as goal

pub returns : goal.returns
returns c =
    let a = c.args in
    λ s. glyphs-removed s _ a.rows.now (a.count - a.k) a.count a.at a.k (omega arith)
    (rw c.copy_within.ensures.after (rows-removed a.rows.now a.count a.k (a.at + 1) (omega arith) (omega arith)))
