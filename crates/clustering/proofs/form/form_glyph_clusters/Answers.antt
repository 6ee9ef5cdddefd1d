-- `clustering::form::form_glyph_clusters` meets its contract: field by field. Assumes nothing.
use native.Mathlib.Omega.{arith}
use mathlib.Core.Path.{ap}
use mir.Facts.{to_z-of_z}
use borrow.Author.Tests.{leb-true}
use Rattle.spec.specs.Cluster.{form_glyph_clusters}
use Rattle.clustering.specs.declared.measures.Measures.{Measures}
use Rattle.clustering.specs.Groups.{group_in}
use Rattle.clustering.proofs.Glyphs.{width-next, part_length}
use Rattle.clustering.proofs.form.form_glyph_clusters.Goals as goal

pub measure_at-own-requires : goal.measure_at-own-requires
measure_at-own-requires c =
    let a = c.args in
    let h = c.requires.0 in
    rw (to_z-of_z (record { sfits = c.type_inv.first.1.1.1.1.1.0.1 }), c.requires.3)
    (leb-true _ _ (width-next a.s.now a.merged.now a.end a.from h.some h.inside h.widths))

pub returns : goal.returns
unfolding form_glyph_clusters group_in
returns c =
    let a = c.args in
    let kept = c.requires.4 in (
      (λ spans e.
          cc (
            c.glyph_advances-advances.ensures.0,
            c.glyph_advances-advances.ensures.1,
            ap (λ (m : Measures). m.ascent) kept,
            ap (λ (m : Measures). m.descent) kept,
            e,
            c.requires.3,
            part_length a.s.now a.merged.now a.end a.from c.requires.0.inside,
          )),
      omega arith,
    )
