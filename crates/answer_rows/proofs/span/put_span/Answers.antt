-- `answer_rows::span::put_span` meets its contract. Assumes nothing.
use mathlib.Core.Path.{sym}
use native.Mathlib.Omega.{arith}
use lib.ListN.{drop}
use Rattle.spec.specs.Decode.{parts_of}
use Rattle.wire.proofs.Splice.{splice-none}
use Rattle.job_rows.specs.Rows.{job_at}
use Rattle.answer_rows.proofs.SpanRows.{one_bytes, one_sum, no_bytes, no_sum}
use Rattle.answer_rows.proofs.span.put_span.Goals as goal

pub returns-then-has_row : goal.returns-then-has_row
returns-then-has_row c =
    let a = c.args in
    let here = sym c.if-has_row.ensures in
    let put = c.put_span_row.ensures in (
      omega (arith, put.0, one_sum (job_at a.s.now a.job) a.origin a.clusters.now a.k (parts_of (drop a.place a.s.now)) here),
      rw (one_bytes (job_at a.s.now a.job) a.origin a.clusters.now a.k (parts_of (drop a.place a.s.now)) here) put.1,
    )

pub returns : goal.returns
returns c =
    let a = c.args in
    let gone = sym c.if-has_row.ensures in (
      omega (arith, no_sum (job_at a.s.now a.job) a.origin a.clusters.now a.k (parts_of (drop a.place a.s.now)) gone),
      rw (no_bytes (job_at a.s.now a.job) a.origin a.clusters.now a.k (parts_of (drop a.place a.s.now)) gone) (sym (splice-none a.out.now a.at)),
    )
