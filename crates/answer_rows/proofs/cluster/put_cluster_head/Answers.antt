-- `answer_rows::cluster::put_cluster_head` meets its contract. Assumes nothing.
use Prim.Native.Nat.{◌+◌}
use mathlib.Core.List.{flat_map}
use native.Mathlib.Omega.{arith}
use Rattle.spec.specs.Bytes.{bytes, float_bytes}
use Rattle.spec.specs.Layout.{flags_of}
use Rattle.spec_laws.proofs.Numbers.{length-bytes}
use Rattle.spec_laws.proofs.AnswerLength.{length-floats}
use Rattle.answer_rows.specs.Clusters.{floats_of, cluster_head_bytes}
use Rattle.answer_rows.proofs.ClusterRows.{length-head}
use Rattle.answer_rows.proofs.Puts.{put_four}
use Rattle.answer_rows.proofs.cluster.put_cluster_head.Goals as goal

pub returns : goal.returns
unfolding cluster_head_bytes
returns c =
    let a = c.args in
    let d = a.c.now in
    put_four a.out.now a.at (bytes 2 d.index) (bytes 1 (flags_of a.mode d)) (flat_map float_bytes (floats_of d)) (bytes 2 a.glyphs) {k₁ = a.at + 2} {k₂ = a.at + 3} {k₃ = a.at + 43}
    (omega (arith, c.requires, length-head a.mode d a.glyphs)) (omega (arith, length-bytes 2 d.index)) (omega (arith, length-bytes 1 (flags_of a.mode d))) (omega (arith, length-floats (floats_of d)))
    c.put_number.ensures (rw c.flags_of.ensures at c.put_u8.ensures) (rw c.floats_of.ensures at c.put_floats.ensures) c.put_number-2.ensures
