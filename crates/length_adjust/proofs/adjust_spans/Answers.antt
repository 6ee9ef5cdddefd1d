use Prim.Native.Nat.{◌≤◌, ◌<◌}
use mathlib.Core.Path.{refl, sym, ◌∙◌}
use native.Mathlib.Omega.{arith}
use lib.ListN.{length}
use Rattle.spec.specs.Outcome.{given}
use Rattle.spec.proofs.Loops.{fold_done}
use Rattle.spec.specs.LengthAdjust.{adjust_span, apply_length_adjust}
use Rattle.job_rows.specs.Rows.{spans_in}
use Rattle.text_order.proofs.Order.{ordered-still}
use Rattle.length_adjust.specs.Answer.{adjusted_of}
use Rattle.length_adjust.proofs.Kept.{spans-length, span-here, turn-refused, turn-done, looked-done}
use Rattle.length_adjust.proofs.adjust_spans.Goals as goal

pub loop-at-init : goal.loop-at-init
unfolding apply_length_adjust
loop-at-init c = (refl, refl, omega arith, omega arith)

pub adjust_span-one-requires : goal.adjust_span-one-requires
adjust_span-one-requires c =
    let l = c.loop-at in
    let given = c.requires in
    (omega (arith, l.auto.clusters), omega (arith, l.auto.clusters), record { ordered = ordered-still l.clusters given.3.ordered l.invariant.0; marked = omega (arith, l.auto.clusters) })

pub returns-then-is_err : goal.returns-then-is_err
returns-then-is_err c =
    let a = c.args in
    let l = c.loop-at in
    let spans = spans_in a.s.now a.spans.now in
    let here : l.at-index < length a.spans.now = omega arith in
    let within : l.at-index < length spans = rw (spans-length a.s.now a.spans.now) here in
    let one = rw (c.span_at.ensures ∙ span-here a.s.now a.spans.now l.at-index here) at c.adjust_span-one.ensures in
    let turn = turn-refused l.clusters c.adjust_span-one.new.clusters spans l.at-index within c.adjust_span-one.result.adjusted (sym c.if-is_err.ensures.value) one.0 in
    (turn.0 ∙ l.invariant.1, omega (arith, turn.1, one.1, l.invariant.3))

pub loop-at-preserved : goal.loop-at-preserved
loop-at-preserved c =
    let a = c.args in
    let l = c.loop-at in
    let spans = spans_in a.s.now a.spans.now in
    let here : l.at-index < length a.spans.now = omega arith in
    let within : l.at-index < length spans = rw (spans-length a.s.now a.spans.now) here in
    let one = rw (c.span_at.ensures ∙ span-here a.s.now a.spans.now l.at-index here) at c.adjust_span-one.ensures in
    let turn = turn-done l.clusters c.adjust_span-one.new.clusters spans l.at-index within c.adjust_span-one.result.adjusted (sym c.if-is_err.ensures.value) one.0 in
    (turn.0 ∙ l.invariant.0, turn.1 ∙ l.invariant.1, omega (arith, one.2, l.invariant.2), omega (arith, turn.2, one.1, l.invariant.3))

pub returns : goal.returns
unfolding adjusted_of
returns c =
    let a = c.args in
    let l = c.loop-at in
    let spans = spans_in a.s.now a.spans.now in
    let none : length spans ≤ l.at-index = rw (spans-length a.s.now a.spans.now) (omega arith) in
    (sym (fold_done adjust_span (given l.clusters) spans l.at-index none) ∙ l.invariant.1, omega (arith, l.invariant.3, looked-done (given l.clusters) spans l.at-index none))
