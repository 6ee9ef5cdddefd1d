-- `job_rows::rows::span_padded` meets its contract. Assumes nothing.
use native.Mathlib.Omega.{arith}
use Rattle.job_rows.proofs.PaddedRows.{span-padded}
use Rattle.job_rows.proofs.rows.span_padded.Goals as goal

pub returns : goal.returns
returns c = rw (c.span_of.ensures, c.padded_row-padded.ensures, span-padded 26 c.args.row.now (omega arith))
