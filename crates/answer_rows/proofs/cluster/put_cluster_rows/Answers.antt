use native.Mathlib.Omega.{arith}
use Rattle.spec_laws.proofs.AnswerLength.{length-cluster_row}
use Rattle.job_rows.specs.Rows.{glyphs_at}
use Rattle.answer_rows.proofs.GlyphsLeft.{glyphs-count}
use Rattle.answer_rows.proofs.ClusterRows.{row_in, rows-in, rows-long, row-room}
use Rattle.answer_rows.proofs.Puts.{put-start, row-turn, row_done}
use Rattle.answer_rows.proofs.cluster.put_cluster_rows.Goals as goal

pub loop-c-init : goal.loop-c-init
loop-c-init c =
    let a = c.args in
    put-start (omega (arith, c.requires.2, rows-long a.mode (glyphs_at a.s.now a.merged.now) _ (glyphs-count a.s.now a.merged.now) a.clusters.now))

pub put_cluster_row-here-requires : goal.put_cluster_row-here-requires
put_cluster_row-here-requires c =
    let a = c.args in
    (row-room a.mode (glyphs_at a.s.now a.merged.now) a.clusters.now c.loop-c.c-index c.loop-c.invariant _ (omega arith), c.requires.1)

pub loop-c-preserved : goal.loop-c-preserved
loop-c-preserved c =
    let a = c.args in
    let l = c.loop-c in
    let gs = glyphs_at a.s.now a.merged.now in
    let put = c.put_cluster_row-here.ensures in
    row-turn (row_in a.mode gs) a.clusters.now l.c-index l.invariant _ (omega arith) put.0 (omega (arith, put.1, length-cluster_row))

pub returns : goal.returns
returns c =
    let a = c.args in
    let l = c.loop-c in
    let gs = glyphs_at a.s.now a.merged.now in
    let done = row_done (row_in a.mode gs) a.clusters.now l.c-index l.invariant (omega arith) in
    (rw (rows-in a.mode gs a.clusters.now) at done.0, omega (arith, done.1, rows-long a.mode gs _ (glyphs-count a.s.now a.merged.now) a.clusters.now))
