use mathlib.Core.Path.{sym, ◌∙◌}
use native.Mathlib.Omega.{arith}
use Rattle.spec.specs.Decode.{shift_bytes, shift_of}
use Rattle.baseline.proofs.Backwards.{added-turn, added-done}
use Rattle.baseline.proofs.Shifts.{add_shift, all-added}
use Rattle.baseline.proofs.shift.resolve_baseline_shift.Goals as goal

pub loop-k-preserved : goal.loop-k-preserved
loop-k-preserved c =
    let a = c.args in
    let l = c.loop-k in
    rw (c.add_baseline_shift-sum.ensures, c.baseline_shift_at.ensures)
    (added-turn shift_bytes shift_of (add_shift a.font a.size) l.k c.tail-shifts.result.now l.sum (omega arith) ∙ l.invariant)

pub returns : goal.returns
returns c =
    let a = c.args in
    let l = c.loop-k in
    let shifts = c.tail-shifts in
    rw (← shifts.ensures)
    (sym (added-done shift_bytes shift_of (add_shift a.font a.size) l.k shifts.result.now l.sum (omega arith))
    ∙ l.invariant
    ∙ all-added a.font a.size a.n shifts.result.now)
