use native.Mathlib.Omega.{arith}
use mathlib.Core.Path.{sym, ◌∙◌}
use Rattle.job_rows.proofs.ByNumber.{placed-turn, placed_end}
use Rattle.job_rows.proofs.numbered.span_places.Goals as goal

pub loop-place-preserved : goal.loop-place-preserved
loop-place-preserved c =
    let l = c.loop-place in
    placed-turn c.args.s.now l.places l.place-index l.p (omega arith) c.tail.ensures c.span_size.ensures.0 c.offset_after-p.ensures
    ∙ l.invariant

pub returns : goal.returns
returns c =
    let l = c.loop-place in
    sym (placed_end c.args.s.now l.places l.place-index l.p (omega arith)) ∙ l.invariant
