-- `answer_rows::span::put_span_row` meets its contract. Assumes nothing.
use native.Mathlib.Omega.{arith}
use lib.ListN.{drop}
use Rattle.spec.specs.Decode.{parts_of}
use Rattle.spec.specs.Layout.{span_row}
use Rattle.job_rows.specs.Rows.{job_at}
use Rattle.answer_rows.proofs.SpanRows.{row_put, run_count, row-runs}
use Rattle.answer_rows.proofs.span.put_span_row.Goals as goal

pub returns : goal.returns
unfolding span_row
returns c =
    let runs = c.collect_decoration_spans-runs.ensures in
    let a = c.args in
    let job = job_at a.s.now a.job in
    let cs = a.clusters.now in (
      omega (arith, runs.0, run_count job a.origin cs a.k a.s.now a.place c.span_at-span.ensures),
      row_put a.out.now a.at (span_row job a.origin cs a.k (parts_of (drop a.place a.s.now))) (c.span_row_floats-values.ensures cs a.k)
          (row-runs job a.origin cs a.k a.s.now a.place c.span_at-span.ensures) runs.0 runs.1 c.put_span_head.ensures c.requires.1,
    )
