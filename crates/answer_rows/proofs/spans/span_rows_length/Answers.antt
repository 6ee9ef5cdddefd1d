-- `answer_rows::spans::span_rows_length` meets its contract. Assumes nothing.
use Prim.Native.Nat.{◌*◌, ◌≤◌, ◌<◌}
use mathlib.Core.Path.{◌≡◌, sym, ◌∙◌}
use native.Mathlib.Nat.{mul-le-mul}
use native.Mathlib.Omega.{arith}
use lib.ListN.{length, drop}
use Rattle.std.proofs.Common.{rules}
use Rattle.std.specs.List.{sum_by}
use Rattle.spec.specs.Decode.{parts_of}
use Rattle.spec.specs.Answer.{span_row_size}
use Rattle.answer_rows.specs.Spans.{span_size}
use Rattle.answer_rows.proofs.SpanRows.{rows_sized, rows_few}
use Rattle.answer_rows.proofs.spans.span_rows_length.Goals as goal

pub sum-requires-clause-fits : goal.sum-requires-clause-fits
sum-requires-clause-fits c =
    let a = c.args in
    let most : length a.spans.now * span_row_size (length a.clusters.now) ≤ 255 * span_row_size 65535 = (let runs : span_row_size (length a.clusters.now) ≤ span_row_size 65535 = omega (arith, c.requires.0) in mul-le-mul c.requires.1 runs) in
    let few : sum_by (λ at. span_size a.clusters.now (parts_of (drop at a.s.now))) a.spans.now < 18446744073709551616 = omega (arith, rows_few a.clusters.now a.s.now a.spans.now) in
    search rules

pub returns : goal.returns
returns c =
    let a = c.args in
    let summed : c.sum.result ≡ sum_by (λ at. span_size a.clusters.now (parts_of (drop at a.s.now))) a.spans.now = search rules in
    (rw summed (rows_few a.clusters.now a.s.now a.spans.now), λ job origin. summed ∙ sym (rows_sized job origin a.clusters.now a.s.now 0 a.spans.now))
