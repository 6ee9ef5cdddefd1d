-- `merge::index::set_bucket` meets its contract. Assumes nothing.
use Prim.Native.Nat.{◌/◌}
use mathlib.Core.Path.{sym}
use native.Mathlib.Omega.{arith}
use lib.Seq.{set_out}
use Rattle.merge.proofs.index.set_bucket.Goals as goal

pub returns-else-b-buckets : goal.returns-else-b-buckets
returns-else-b-buckets c = let a = c.args in sym (set_out a.buckets.now (a.index / 32) a.place (omega arith))
