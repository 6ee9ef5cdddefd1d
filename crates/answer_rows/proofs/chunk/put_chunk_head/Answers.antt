-- `answer_rows::chunk::put_chunk_head` meets its contract. Assumes nothing.
use Prim.Native.Nat.{◌+◌}
use native.Mathlib.Omega.{arith}
use Rattle.spec.specs.Bytes.{bytes, float_bytes}
use Rattle.spec_laws.proofs.Numbers.{length-bytes, length-float_bytes}
use Rattle.answer_rows.specs.Chunks.{chunk_head_bytes}
use Rattle.answer_rows.proofs.ChunkRows.{length-head}
use Rattle.answer_rows.proofs.Puts.{put_four}
use Rattle.answer_rows.proofs.chunk.put_chunk_head.Goals as goal

pub returns : goal.returns
unfolding chunk_head_bytes
returns c =
    let a = c.args in
    put_four a.out.now a.at (bytes 2 a.clusters) (bytes 1 a.spans) (float_bytes a.pen.x) (float_bytes a.pen.y) {k₁ = a.at + 2} {k₂ = a.at + 3} {k₃ = a.at + 7}
    (omega (arith, length-head a.clusters a.spans a.pen)) (omega (arith, length-bytes 2 a.clusters)) (omega (arith, length-bytes 1 a.spans)) (omega (arith, length-float_bytes a.pen.x))
    c.put_number.ensures c.put_number-2.ensures c.put_f32.ensures c.put_f32-2.ensures
