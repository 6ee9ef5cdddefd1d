-- `answer_rows::cluster::put_cluster_row` meets its contract. Assumes nothing.
use Prim.Native.Nat.{◌+◌}
use mathlib.Core.Path.{◌∙◌}
use mathlib.Core.List.{flat_map}
use native.Mathlib.Omega.{arith}
use lib.ListN.{length}
use Rattle.spec.specs.Single.{+0}
use Rattle.spec.specs.Answer.{glyph_row_bytes, cluster_row_bytes}
use Rattle.spec.specs.Layout.{glyph_rows, cluster_row}
use Rattle.spec_laws.proofs.AnswerLength.{length-cluster_row}
use Rattle.job_rows.specs.Rows.{glyphs_at}
use Rattle.answer_rows.specs.Clusters.{cluster_head_bytes}
use Rattle.answer_rows.proofs.ClusterRows.{places-ok, row-parts, length-head, row-of-places}
use Rattle.answer_rows.proofs.Puts.{put-start, put-turn}
use Rattle.answer_rows.proofs.cluster.put_cluster_row.Goals as goal

pub put_glyphs-requires : goal.put_glyphs-requires
put_glyphs-requires c =
    let a = c.args in
    let places = c.glyph_places-places in (
      omega (arith, c.requires.0, row-of-places a.s.now a.merged.now places.result.now a.c.now places.ensures a.mode),
      places-ok a.s.now a.merged.now places.result.now a.c.now places.ensures c.requires.1,
    )

pub returns : goal.returns
returns c =
    let a = c.args in
    let places = c.glyph_places-places.result.now in
    let taken = c.glyph_places-places.ensures in
    let row = cluster_row a.mode (glyphs_at a.s.now a.merged.now) a.c.now in
    let p₀ = put-start {old = a.out.now} {at = a.at} {bs = cluster_row_bytes row} (omega (arith, c.requires.0, length-cluster_row row)) in
    let p₁ = put-turn p₀ (cluster_head_bytes a.mode a.c.now (length places)) (flat_map glyph_row_bytes (glyph_rows +0 (glyphs_at a.s.now places))) {here' = a.at + 45}
    (row-parts a.s.now a.merged.now places a.c.now taken a.mode) c.put_cluster_head.ensures (omega (arith, length-head a.mode a.c.now (length places))) in
    (c.put_glyphs.ensures.0 ∙ p₁.whole, omega (arith, c.put_glyphs.ensures.1, row-of-places a.s.now a.merged.now places a.c.now taken a.mode))
