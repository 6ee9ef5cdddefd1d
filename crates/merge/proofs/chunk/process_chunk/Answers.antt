use mathlib.Core.Path.{◌≡◌, refl, ◌∙◌}
use borrow.Author.Rules.{rules}
use Rattle.std.specs.Prelude.{Err}
use Rattle.spec.specs.Outcome.{given}
use Rattle.spec.specs.Merge.{merge_glyphs}
use Rattle.spec.specs.Refusal.{refusal_number}
use Rattle.job_rows.specs.Rows.{parts_in}
use Rattle.merge.specs.Merged.{glyphs_in, merged_of}
use Rattle.merge.proofs.Stamps.{below-clear, ended-below}
use Rattle.merge.proofs.Spans.{spans-start, spans_on, spans-stop, spans-done, few-here, few_on}
use native.Mathlib.Omega.{arith}
use Rattle.merge.proofs.chunk.process_chunk.Goals as goal

pub loop-at-init : goal.loop-at-init
loop-at-init c =
    let a = c.args in
    (refl, below-clear 1024, omega arith, c.requires.own, spans-start a.s.now a.rows.now (parts_in a.s.now a.spans.now))

pub merge_span-requires : goal.merge_span-requires
merge_span-requires c =
    let a = c.args in
    let l = c.loop-at in
    (c.requires.size, few-here a.s.now a.spans.now l.at-index (omega arith) l.invariant.3, record { earlier = l.invariant.1; few = l.invariant.2 })

pub returns-in_err-count : goal.returns-in_err-count
unfolding merged_of
returns-in_err-count c =
    let a = c.args in
    let l = c.loop-at in
    let s = a.s.now in
    let same : c.from_residual.result ≡ Err c.in_err-count.field-0.0 = search rules in
    rw same (
      tt,
      spans-stop s a.spans.now l.at-index (given (glyphs_in s l.rows l.count)) (merge_glyphs (parts_in s a.spans.now)) l.invariant.4
          (refusal_number c.in_err-count.field-0.0) (omega arith) (rw c.in_err-count.was at c.merge_span.ensures.is),
    )

pub loop-at-preserved : goal.loop-at-preserved
unfolding merged_of
loop-at-preserved c =
    let did = c.merge_span in
    let a = c.args in
    let l = c.loop-at in
    let s = a.s.now in (
      did.ensures.same-span ∙ omega (arith, l.invariant.0),
      ended-below did.ensures c.in_ok-count.was l.invariant.1,
      rw c.in_ok-count.was at did.ensures.held,
      few_on s a.spans.now l.at-index (omega arith) l.invariant.3,
      spans_on s a.spans.now l.at-index (given (glyphs_in s l.rows l.count)) (merge_glyphs (parts_in s a.spans.now)) l.invariant.4 _ (omega arith) (rw c.in_ok-count.was at did.ensures.is),
    )

pub returns : goal.returns
unfolding merged_of
returns c =
    let a = c.args in
    let l = c.loop-at in
    let s = a.s.now in
    (l.invariant.2, spans-done s a.spans.now l.at-index (given (glyphs_in s l.rows l.count)) (merge_glyphs (parts_in s a.spans.now)) l.invariant.4 (omega arith))
