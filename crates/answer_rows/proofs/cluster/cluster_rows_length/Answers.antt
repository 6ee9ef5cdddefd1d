-- `answer_rows::cluster::cluster_rows_length` meets its contract. Assumes nothing.
use mathlib.Core.Path.{◌≡◌, sym, ◌∙◌}
use Rattle.std.proofs.Common.{rules}
use Rattle.std.specs.List.{sum_by}
use Rattle.answer_rows.specs.Clusters.{cluster_size}
use Rattle.answer_rows.proofs.ClusterRows.{rows_sized, rows_few}
use Rattle.answer_rows.proofs.cluster.cluster_rows_length.Goals as goal

pub returns : goal.returns
returns c =
    let summed : c.sum.result ≡ sum_by (cluster_size c.args.count) c.args.clusters.now = search rules in
    let all = summed ∙ sym (rows_sized c.args.count c.args.clusters.now) in
    (all, rw all (rows_few c.args.count c.args.clusters.now))
