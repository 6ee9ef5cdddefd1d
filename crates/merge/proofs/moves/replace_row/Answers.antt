-- `merge::moves::replace_row` meets its contract. Assumes nothing.
use native.Mathlib.Omega.{arith}
use Rattle.merge.proofs.Moved.{glyphs-set}
use Rattle.merge.proofs.moves.replace_row.Goals as goal

pub returns : goal.returns
returns c =
    let a = c.args in
    λ s. glyphs-set s a.rows.now a.count a.at a.row (omega arith)
