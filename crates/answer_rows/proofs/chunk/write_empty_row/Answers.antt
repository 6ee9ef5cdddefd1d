-- `answer_rows::chunk::write_empty_row` meets its contract. Assumes nothing.
use mathlib.Core.Path.{sym, ap, ◌∙◌}
use native.Mathlib.Omega.{arith}
use Rattle.spec.specs.Answer.{chunk_row_bytes}
use Rattle.answer_rows.specs.Chunks.{empty_row}
use Rattle.wire.specs.Splice.{splice}
use Rattle.answer_rows.proofs.ChunkRows.{empty-bytes, empty-length, put-within, put-none}
use Rattle.answer_rows.proofs.chunk.write_empty_row.Goals as goal

pub returns-then-at-out : goal.returns-then-at-out
returns-then-at-out c =
    let a = c.args in
    let long = empty-length a.pen in
    record {
      length = sym long;
      buffer = c.put_chunk_head.ensures ∙ ap (splice a.out.now a.at) (sym (empty-bytes a.pen))
          ∙ put-within a.out.now a.at (chunk_row_bytes (empty_row a.pen)) (omega (arith, long, c.if-at-out.true));
    }

pub returns-else-at-out : goal.returns-else-at-out
returns-else-at-out c =
    let a = c.args in
    let long = empty-length a.pen in
    record { length = sym long; buffer = put-none a.out.now a.at (chunk_row_bytes (empty_row a.pen)) (omega (arith, long, c.if-at-out.false)) }
