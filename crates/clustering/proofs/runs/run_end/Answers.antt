-- `clustering::runs::run_end` meets its contract: as many glyphs on as have the first one's byte index. Assumes nothing.
use Rattle.clustering.proofs.NextRun.{run-on}
use Rattle.clustering.proofs.runs.run_end.Goals as goal

pub returns : goal.returns
returns c =
    let a = c.args in
    run-on a.s.now a.merged.now a.i c.run_length.result c.index_in.result c.requires c.index_in.ensures c.run_length.ensures
