use Rattle.field_checks.proofs.Skips.{ascii_more}
use Rattle.field_checks.proofs.utf8.all_ascii.Goals as goal

pub loop-b-preserved : goal.loop-b-preserved
loop-b-preserved c =
    let l = c.loop-b in
    ascii_more l.ascii _ l.b-index l.invariant
