-- `position::relative::mark` meets its contract. Assumes nothing.
use Rattle.std.proofs.Common.{rules}
use lib.Ieee.{ne}
use Rattle.spec.specs.Position.{marked_by}
use Rattle.position.proofs.relative.mark.Goals as goal

pub returns-then-rotated : goal.returns-then-rotated
unfolding marked_by ne
returns-then-rotated c = search rules

pub returns-else-rotated : goal.returns-else-rotated
unfolding marked_by ne
returns-else-rotated c = search rules
