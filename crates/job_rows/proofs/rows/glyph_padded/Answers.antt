-- `job_rows::rows::glyph_padded` meets its contract. Assumes nothing.
use native.Mathlib.Omega.{arith}
use Rattle.job_rows.proofs.PaddedRows.{glyph-padded}
use Rattle.job_rows.proofs.rows.glyph_padded.Goals as goal

pub returns : goal.returns
returns c = rw (c.glyph_of.ensures, c.padded_row-padded.ensures, glyph-padded 26 c.args.row.now (omega arith))
