-- `answer_rows::chunk::chunk_row_length` meets its contract. Assumes nothing.
use mathlib.Core.Path.{refl}
use Rattle.job_rows.specs.Rows.{parts_in}
use Rattle.answer_rows.proofs.ChunkRows.{chunk-size}
use Rattle.answer_rows.proofs.chunk.chunk_row_length.Goals as goal

pub returns : goal.returns
returns c =
    let a = c.args in
    λ job origin pen gs e.
    rw (chunk-size job origin pen gs a.count e a.clusters.now (parts_in a.s.now a.spans.now), c.cluster_rows_length-cluster_rows.ensures.0, c.span_rows_length.ensures.1 job origin) refl
