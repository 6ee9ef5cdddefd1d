-- `merge::step::replace` meets its contract: one of three cases by the two cluster lengths. Assumes nothing.
use native.Mathlib.Omega.{arith}
use Rattle.merge.specs.Steps.{merging_of}
use Rattle.merge.proofs.Merges.{longer, shorter, as_long}
use Rattle.merge.proofs.step.replace.Goals as goal
use Rattle.merge.proofs.step.replace.Goals.{then-new-old, else-new-old}

pub returns-then-old-new : goal.returns-then-old-new
returns-then-old-new c =
    let new = c.length_at-new in
    let old = c.length_at-old in
    let a = c.args in
    let s = a.s.now in
    λ positions.
    rw (longer s a.rows.now a.at a.row positions (omega arith) a.p new.result old.result new.ensures.0 old.ensures.0 (omega arith) (omega arith))
    (c.replace_longer.ensures s positions (omega (arith, new.ensures.0)))

pub returns : goal.returns
unfolding merging_of
returns c =
    let put = c.replace_row in
    let new = c.length_at-new in
    let old = c.length_at-old in
    let a = c.args in
    let s = a.s.now in
    λ positions.
    elim c.if-new-old.branch [
      | then-new-old w ↦
          rw (shorter s a.rows.now a.at a.row positions (omega arith) a.p new.result old.result new.ensures.0 old.ensures.0 (omega arith) (omega arith), put.ensures s, w.owed-is)
      | else-new-old w ↦
          rw (as_long s a.rows.now a.at a.row positions (omega arith) a.p new.result old.result new.ensures.0 old.ensures.0 (omega arith) (omega arith) (omega arith), put.ensures s, w.owed-is)
    ]
