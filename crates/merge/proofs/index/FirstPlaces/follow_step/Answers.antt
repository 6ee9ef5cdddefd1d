-- `merge::index::FirstPlaces::follow_step` meets its contract. Assumes nothing.
use native.Mathlib.Omega.{arith}
use borrow.Author.Tests.{lt-ltb, le-ltb}
use Rattle.merge.specs.Buckets.{table_after}
use Rattle.merge.proofs.index.FirstPlaces.follow_step.Goals as goal

pub returns-then-before-count : goal.returns-then-before-count
unfolding table_after
returns-then-before-count c = rw (lt-ltb c.args.before c.args.count (omega arith), c.lower_bucket.ensures)

pub returns-else-before-count : goal.returns-else-before-count
unfolding table_after
returns-else-before-count c = rw (le-ltb c.args.before c.args.count (omega arith))
