-- `clustering::form::glyph_advances` meets its contract: what comes of the sum and of the largest so far, with the glyphs that are left. Assumes nothing.
use Prim.Native.Nat.{◌+◌}
use Rattle.job_rows.specs.Rows.{fonts_in}
use Rattle.clustering.proofs.Sums.{Left}
use Rattle.clustering.proofs.form.glyph_advances.Given as goal

abbrev pub invariant-loop-at : goal.invariant-loop-at
invariant-loop-at l = Left l.s l.merged (fonts_in l.s l.fonts) l.size l.from l.end (l.from + 1 + l.at-index) l.all.width l.all.advance
