-- `merge::index::FirstPlaces::renew` meets its contract. Assumes nothing.
use native.Mathlib.Omega.{arith}
use borrow.Author.Tests.{lt-ltb, le-ltb}
use Rattle.merge.specs.Buckets.{renewed}
use Rattle.merge.proofs.index.FirstPlaces.renew.Goals as goal

pub returns-then-self-gt-SLACK : goal.returns-then-self-gt-SLACK
unfolding renewed
returns-then-self-gt-SLACK c = rw (lt-ltb 32 c.args.self.now.slack (omega arith), c.build_index.ensures)

pub returns-else-self-gt-SLACK : goal.returns-else-self-gt-SLACK
unfolding renewed
returns-else-self-gt-SLACK c = rw (le-ltb 32 c.args.self.now.slack (omega arith))
