-- `answer_rows::chunk::write_chunk_row` meets its contract. Assumes nothing.
use native.Mathlib.Omega.{arith}
use Rattle.answer_rows.proofs.ChunkRows.{row-measured, row-left}
use Rattle.answer_rows.proofs.chunk.write_chunk_row.Goals as goal
use Rattle.answer_rows.proofs.chunk.write_chunk_row.Goals.{then-out-at+else-out-at-2, else-out-at}

pub overflow_add-at-then-out-at : goal.overflow_add-at-then-out-at
overflow_add-at-then-out-at c =
    let a = c.args in
    let w = c.requires.0 in
    let measured = row-measured a.s.now a.job a.spans.now a.merged.now a.frame a.clusters.now c.chunk_row_length-length.ensures in
    omega (arith, measured, c.requires.1, c.requires.2, w.few_spans, w.few_glyphs, w.few_clusters)

pub returns-then-out-at-2 : goal.returns-then-out-at-2
returns-then-out-at-2 c =
    let a = c.args in
    let measured = row-measured a.s.now a.job a.spans.now a.merged.now a.frame a.clusters.now c.chunk_row_length-length.ensures in
    row-left a.s.now a.job a.spans.now a.merged.now a.frame a.clusters.now a.out.now a.at measured c.if-out-at-2.true

pub put_chunk_row-requires : goal.put_chunk_row-requires
put_chunk_row-requires c = (
  c.requires.0,
  elim c.if-out-at.branch [
    | then-out-at+else-out-at-2 w ↦
        omega (arith, w.if-out-at-2.false, row-measured c.args.s.now c.args.job c.args.spans.now c.args.merged.now c.args.frame c.args.clusters.now w.chunk_row_length-length.ensures)
    | else-out-at w ↦ omega (arith, w.if-out-at.false, c.chunk_row_max.ensures, c.requires.2)
  ],
)
