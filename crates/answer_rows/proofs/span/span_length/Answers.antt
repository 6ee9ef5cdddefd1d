-- `answer_rows::span::span_length` meets its contract. Assumes nothing.
use mathlib.Core.Path.{sym}
use native.Mathlib.Omega.{arith}
use Rattle.spec.specs.Decode.{parts_of}
use Rattle.answer_rows.specs.Spans.{span_size}
use Rattle.answer_rows.proofs.span.span_length.Goals as goal

pub returns-then-has_row : goal.returns-then-has_row
unfolding span_size parts_of
returns-then-has_row c =
    let runs = rw c.span_at.ensures at c.count_runs.ensures.0 in
    (rw (sym c.if-has_row.ensures) (omega (arith, runs)), omega (arith, c.count_runs.ensures.1))
