-- `merge::step::replace_longer` meets its contract. Assumes nothing.
use native.Mathlib.Omega.{arith}
use mathlib.Core.Path.{sym}
use Rattle.merge.specs.Steps.{merging_of}
use Rattle.merge.proofs.Merges.{covers, past_end}
use Rattle.merge.proofs.step.replace_longer.Goals as goal

pub returns-then-p-gone : goal.returns-then-p-gone
unfolding merging_of
returns-then-p-gone c =
    let a = c.args in
    let none = c.of_list.ensures in
    λ s positions gone-is.
    rw (covers s a.rows.now a.at a.row positions (omega arith) a.p a.gone gone-is (omega arith), none.0, none.1, none.2, c.replace_row.ensures s, c.remove_rows.ensures s)

pub returns : goal.returns
unfolding merging_of
returns c =
    let a = c.args in
    λ s positions gone-is. sym (past_end s a.rows.now a.at a.row positions (omega arith) a.p a.gone gone-is (omega arith))
