-- `answer_rows::glyphs::put_glyphs` meets its contract. Assumes nothing.
use lib.ListN.{drop}
use Rattle.job_rows.specs.Rows.{glyphs_at}
use Rattle.answer_rows.proofs.GlyphsLeft.{GlyphsLeft}
use Rattle.answer_rows.proofs.glyphs.put_glyphs.Given as goal

abbrev pub invariant-loop-place : goal.invariant-loop-place
invariant-loop-place l =
    let gs = glyphs_at l.s l.places in
    GlyphsLeft gs l.initial.out l.at l.out l.here l.x (drop l.place-index gs)
