-- `job_rows::rows::font_padded` meets its contract. Assumes nothing.
use native.Mathlib.Omega.{arith}
use Rattle.job_rows.proofs.PaddedRows.{font-padded}
use Rattle.job_rows.proofs.rows.font_padded.Goals as goal

pub returns : goal.returns
returns c = rw (c.font_of.ensures, c.padded_row-padded.ensures, font-padded 26 c.args.row.now (omega arith))
