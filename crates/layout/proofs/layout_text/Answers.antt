-- `layout::layout_text` meets its contract. Assumes nothing.
use mathlib.Core.Path.{◌≡◌, sym, ap, ◌∙◌}
use native.Mathlib.Omega.{arith}
use Rattle.std.proofs.Common.{Err, rules}
use Rattle.spec.specs.Answer.{answer_head_size}
use Rattle.spec.specs.Refusal.{refusal_number, outcome_of}
use Rattle.job_checks.proofs.Verdicts.{refusal-where-refused}
use Rattle.layout.specs.Steps.{job_outcome}
use Rattle.layout.proofs.Accepting.{job-given, checked-job}
use Rattle.layout.proofs.Promised.{bytes_of, promised-given, promised-refused}
use Rattle.layout.proofs.Single.{count-of-chunks}
use Rattle.layout.proofs.Outcomes.{refused-of, given-of}
use Rattle.layout.proofs.Copied.{end-length}
use Rattle.layout.proofs.Answering.{rows-many, answers-refused, answers-too-long, answers-written}
use Rattle.layout.proofs.layout_text.Goals as goal

-- ---- a record that does not pass the checks

pub returns-in_err-check : goal.returns-in_err-check
returns-in_err-check c =
    let a = c.args in
    let why = c.in_err-check.field-0.0 in
    let same : c.from_residual.result ≡ Err why = search rules in
    rw same
    (promised-refused a.job.now a.answer.now (refusal_number why)
    (refusal-where-refused a.job.now (refusal_number why) (sym c.check.ensures ∙ ap outcome_of c.in_err-check.was)))

-- ---- one that does: its job stands at these places

pub invariant_of-checked : goal.invariant_of-checked
invariant_of-checked c = record { passed = checked-job c.args.job.now _ (sym c.check.ensures ∙ ap outcome_of c.in_ok-check.was) }

-- ---- a chunk is refused

pub returns-in_err-end : goal.returns-in_err-end
returns-in_err-end c =
    let s = c.args.job.now in
    let lent = c.args.answer.now in
    let places = c.in_ok-check.field-0 in
    let whole = job_outcome s places in
    let why = c.in_err-end.field-0.0 in
    let same : c.from_residual-in_err-end.result ≡ Err why = search rules in
    rw same
    (promised-given s lent places (bytes_of s (λ i. omega (arith, c.type_inv.job i))) (job-given s places (sym c.check.ensures ∙ ap outcome_of c.in_ok-check.was))
    (answers-refused whole lent (refusal_number why) (refused-of answer_head_size whole (ap outcome_of (sym c.in_err-end.was) ∙ c.layout_all.ensures.laid))
    c.layout_all.ensures.buffer))

-- ---- none is

pub returns-then-answer-end : goal.returns-then-answer-end
returns-then-answer-end c =
    let s = c.args.job.now in
    let lent = c.args.answer.now in
    let places = c.in_ok-check.field-0 in
    let whole = job_outcome s places in
    let is = given-of answer_head_size whole (ap outcome_of (sym c.in_ok-end.was) ∙ c.layout_all.ensures.laid) in
    promised-given s lent places (bytes_of s (λ i. omega (arith, c.type_inv.job i))) (job-given s places (sym c.check.ensures ∙ ap outcome_of c.in_ok-check.was))
    (answers-too-long whole lent is.0 is.1 (omega (arith, end-length is.0 is.2, c.if-answer-end.true)) c.layout_all.ensures.buffer)

pub put_answer_head-requires : goal.put_answer_head-requires
put_answer_head-requires c =
    let is =
    given-of answer_head_size (job_outcome c.args.job.now c.in_ok-check.field-0) (ap outcome_of (sym c.in_ok-end.was) ∙ c.layout_all.ensures.laid) in
    let long = end-length is.0 is.2 in
    (omega (arith, long, c.if-answer-end.false), omega (arith, long))

pub returns : goal.returns
returns c =
    let s = c.args.job.now in
    let lent = c.args.answer.now in
    let places = c.in_ok-check.field-0 in
    let whole = job_outcome s places in
    let is = given-of answer_head_size whole (ap outcome_of (sym c.in_ok-end.was) ∙ c.layout_all.ensures.laid) in
    let long = end-length is.0 is.2 in
    promised-given s lent places (bytes_of s (λ i. omega (arith, c.type_inv.job i))) (job-given s places (sym c.check.ensures ∙ ap outcome_of c.in_ok-check.was))
    (answers-written whole lent is.0 is.1 c.in_ok-end.end.length c.count_of.result (omega (arith, long, c.if-answer-end.false)) long
    (count-of-chunks s places c.count_of.ensures.0 ∙ sym (rows-many s places is.0 is.1)) c.layout_all.ensures.buffer c.put_answer_head.ensures)
