-- `answer_rows::chunk::put_chunk_row` meets its contract. Assumes nothing.
use Rattle.job_rows.specs.Rows.{job_at}
use Rattle.answer_rows.proofs.ChunkRows.{row_put}
use Rattle.answer_rows.proofs.chunk.put_chunk_row.Goals as goal

pub returns : goal.returns
returns c =
    let a = c.args in
    row_put a.s.now a.job a.spans.now a.merged.now a.frame a.clusters.now a.out.now a.at c.requires.1
    (c.span_row_count.ensures.1 (job_at a.s.now a.job) a.frame.origin a.clusters.now)
    c.put_chunk_head.ensures c.put_cluster_rows-behind.ensures c.put_span_rows.ensures
