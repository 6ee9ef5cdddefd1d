-- `layout::staging::layout_staged` meets its contract. Assumes nothing.
use Prim.Native.Nat.{ℕ}
use mathlib.Core.Path.{◌≡◌, sym, ap, ◌∙◌}
use mathlib.Core.List.{List}
use native.Mathlib.Omega.{arith}
use lib.ListN.{length, replicate, length-take, length-drop}
use Rattle.std.proofs.Common.{Err, rules}
use Rattle.spec.specs.Answer.{answer_head_size}
use Rattle.spec.specs.Refusal.{refusal_number, outcome_of}
use Rattle.layout.specs.Steps.{job_outcome}
use Rattle.layout.proofs.Outcomes.{refused-of, given-of}
use Rattle.layout.proofs.Copied.{end-length, refused-unput, longer-unput, fits-of, rows-copied}
use Rattle.layout.proofs.staging.layout_staged.Goals as goal

-- ---- a chunk is refused

pub returns-in_err-end : goal.returns-in_err-end
returns-in_err-end c =
    let whole = job_outcome c.args.checked.bytes.now c.args.checked.job in
    let why = c.in_err-end.field-0.0 in
    let told = ap outcome_of (sym c.in_err-end.was) ∙ c.layout_chunks.ensures.0 in
    let same : c.from_residual.result ≡ Err why = search rules in
    rw same (record { laid = told; buffer = sym (refused-unput whole c.args.answer.now (refusal_number why) (refused-of answer_head_size whole told)) })

-- ---- none is: the end is that of the progress behind the chunks

pub returns-then-answer-end : goal.returns-then-answer-end
returns-then-answer-end c =
    let whole = job_outcome c.args.checked.bytes.now c.args.checked.job in
    let told = ap outcome_of (sym c.in_ok-end.was) ∙ c.layout_chunks.ensures.0 in
    let is = given-of answer_head_size whole told in
    record { laid = told; buffer = sym (longer-unput whole is.0 is.1 c.args.answer.now (omega (arith, end-length is.0 is.2, c.if-answer-end.true))) }

pub returns-then-end-gt-STAGING_BYTES : goal.returns-then-end-gt-STAGING_BYTES
returns-then-end-gt-STAGING_BYTES c =
    let whole = job_outcome c.args.checked.bytes.now c.args.checked.job in
    let is = given-of answer_head_size whole (ap outcome_of (sym c.in_ok-end.was) ∙ c.layout_chunks.ensures.0) in
    let again = c.layout_chunks-then-end-gt-STAGING_BYTES.ensures in
    let fits = fits-of whole is.0 is.1 (length c.args.answer.now) (omega (arith, end-length is.0 is.2, c.if-answer-end.false)) in
    record { laid = again.0; buffer = again.1 fits }

pub slice_bounds-rows-count : goal.slice_bounds-rows-count
slice_bounds-rows-count c =
    let is = given-of answer_head_size (job_outcome c.args.checked.bytes.now c.args.checked.job) (ap outcome_of (sym c.in_ok-end.was) ∙ c.layout_chunks.ensures.0) in
    omega (arith, end-length is.0 is.2)

pub slice_bounds-rows-start : goal.slice_bounds-rows-start
slice_bounds-rows-start c =
    let is = given-of answer_head_size (job_outcome c.args.checked.bytes.now c.args.checked.job) (ap outcome_of (sym c.in_ok-end.was) ∙ c.layout_chunks.ensures.0) in
    omega (arith, end-length is.0 is.2)

pub copy_into-requires : goal.copy_into-requires
copy_into-requires c =
    let is = given-of answer_head_size (job_outcome c.args.checked.bytes.now c.args.checked.job) (ap outcome_of (sym c.in_ok-end.was) ∙ c.layout_chunks.ensures.0) in
    let long = end-length is.0 is.2 in
    simp (length-take, length-drop) (omega (arith, long, c.if-answer-end.false))

pub returns : goal.returns
returns c =
    let whole = job_outcome c.args.checked.bytes.now c.args.checked.job in
    let told = ap outcome_of (sym c.in_ok-end.was) ∙ c.layout_chunks.ensures.0 in
    let is = given-of answer_head_size whole told in
    let long = end-length is.0 is.2 in
    let blank : List ℕ = replicate 8_192 0 in
    let fits = fits-of whole is.0 is.1 (length blank) (omega (arith, long, c.if-end-gt-STAGING_BYTES.false)) in
    record {
      laid = told;
      buffer = rows-copied whole is.0 is.1 c.in_ok-end.end.length blank c.args.answer.now long (omega (arith, c.if-end-gt-STAGING_BYTES.false)) (omega (arith, c.if-answer-end.false))
          (c.layout_chunks.ensures.1 fits) c.copy_into.ensures;
    }
