-- `merge::step::insert_next` meets its contract. Assumes nothing.
use native.Mathlib.Omega.{arith}
use mathlib.Core.Path.{sym}
use Rattle.merge.specs.Steps.{merging_of}
use Rattle.merge.proofs.Merges.{inserts, full}
use Rattle.merge.proofs.step.insert_next.Goals as goal

pub returns-then-at-lt-MERGED : goal.returns-then-at-lt-MERGED
unfolding merging_of
returns-then-at-lt-MERGED c =
    let a = c.args in
    λ s positions. rw (inserts s a.rows.now a.at a.row positions (omega arith) (omega arith), c.insert_row.ensures s)

pub returns : goal.returns
unfolding merging_of
returns c =
    let a = c.args in
    λ s positions. sym (full s a.rows.now a.at a.row positions (omega arith) (omega arith))
