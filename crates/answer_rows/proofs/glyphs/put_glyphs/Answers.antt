use mathlib.Core.Path.{refl}
use native.Mathlib.Omega.{arith}
use Rattle.spec.specs.Single.{+0}
use Rattle.job_rows.specs.Rows.{glyphs_at}
use Rattle.answer_rows.proofs.GlyphsLeft.{glyphs-count, glyph-here, units-here, no-glyph, length-glyph_rows, glyph-room, glyph-turn, glyphs-done}
use Rattle.answer_rows.proofs.Puts.{put-start}
use Rattle.answer_rows.proofs.glyphs.put_glyphs.Goals as goal

pub loop-place-init : goal.loop-place-init
loop-place-init c =
    let a = c.args in
    put-start (omega (arith, c.requires.0, length-glyph_rows +0 (glyphs_at a.s.now a.places.now), glyphs-count a.s.now a.places.now))

pub put_glyph_at-x-requires : goal.put_glyph_at-x-requires
put_glyph_at-x-requires c =
    let l = c.loop-place in
    let a = c.args in (
      glyph-room _ l.x (glyph-here a.s.now a.places.now l.place-index _ refl (omega arith)) l.invariant,
      units-here a.s.now a.places.now l.place-index _ refl (omega arith) c.requires.1,
    )

pub loop-place-preserved : goal.loop-place-preserved
loop-place-preserved c =
    let l = c.loop-place in
    let a = c.args in
    let put = c.put_glyph_at-x.ensures in
    glyph-turn _ l.x (glyph-here a.s.now a.places.now l.place-index _ refl (omega arith)) l.invariant put.0 put.1 (omega arith)

pub returns : goal.returns
returns c =
    let l = c.loop-place in
    let a = c.args in
    let gs = glyphs_at a.s.now a.places.now in
    let done = glyphs-done gs l.x (no-glyph a.s.now a.places.now l.place-index (omega arith)) l.invariant in
    (done.0, omega (arith, done.1, length-glyph_rows +0 gs, glyphs-count a.s.now a.places.now))
