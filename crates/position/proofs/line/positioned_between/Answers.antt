-- `position::line::positioned_between` meets its contract. Assumes nothing.
use Rattle.position.proofs.Ends.{returned}
use Rattle.position.proofs.line.positioned_between.Goals as goal

pub returns : goal.returns
returns c =
    let a = c.args in
    returned a.anchor a.clusters.now c.extent_of-e.result a.first a.last c.process_anchor.result c.place_from-x.result
    c.extent_of-e.ensures c.requires c.process_anchor.ensures c.place_from-x.ensures.0 c.place_from-x.ensures.1
