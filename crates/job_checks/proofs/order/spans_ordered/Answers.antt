use mathlib.Core.Path.{sym, ◌∙◌}
use Rattle.job_checks.proofs.Orders.{ordered-stop, ordered-on, ordered-last, ordered-done}
use native.Mathlib.Omega.{arith}
use Rattle.job_checks.proofs.order.spans_ordered.Goals as goal

pub returns-then-not-previous-start : goal.returns-then-not-previous-start
returns-then-not-previous-start c =
    let l = c.loop-left in
    ordered-stop c.args.length l.previous _ _ l.left l.span.now c.u16_at-start.ensures c.u16_at-end.ensures (omega arith) c.if-not-previous-start.true
    ∙ l.invariant

pub loop-left-preserved-then-left-gt0 : goal.loop-left-preserved-then-left-gt0
loop-left-preserved-then-left-gt0 c =
    let l = c.loop-left in
    rw (c.tail-span.ensures, c.span_size.ensures.0)
    (ordered-on c.args.length l.previous _ _ l.left l.span.now c.u16_at-start.ensures c.u16_at-end.ensures (omega arith) c.if-not-previous-start.false ∙ l.invariant)

pub loop-left-preserved : goal.loop-left-preserved
loop-left-preserved c =
    let l = c.loop-left in
    ordered-last c.args.length l.previous _ _ l.left l.span.now c.u16_at-start.ensures c.u16_at-end.ensures (omega arith) c.if-not-previous-start.false (omega arith)
    ∙ l.invariant

pub returns : goal.returns
returns c =
    let l = c.loop-left in
    sym (ordered-done c.args.length l.previous l.left l.span.now (omega arith)) ∙ l.invariant
