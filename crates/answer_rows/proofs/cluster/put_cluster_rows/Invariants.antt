-- `answer_rows::cluster::put_cluster_rows` meets its contract. Assumes nothing.
use Rattle.job_rows.specs.Rows.{glyphs_at}
use Rattle.answer_rows.proofs.ClusterRows.{row_in}
use Rattle.answer_rows.proofs.Puts.{RowsLeft}
use Rattle.answer_rows.proofs.cluster.put_cluster_rows.Given as goal

abbrev pub invariant-loop-c : goal.invariant-loop-c
invariant-loop-c l = RowsLeft (row_in l.mode (glyphs_at l.s l.merged)) l.clusters l.initial.out l.at l.out l.here l.c-index
