-- `text_order::put_keys` meets its contract. Assumes nothing.
use mathlib.Core.Path.{◌≡◌}
use lib.ListN.{take}
use Rattle.spec.specs.Arithmetic.{indexes}
use Rattle.spec.specs.Cluster.{rounded}
use Rattle.text_order.specs.Keys.{keys_of}
use Rattle.text_order.proofs.put_keys.Given as goal

abbrev pub invariant-loop-i : goal.invariant-loop-i
invariant-loop-i l = take l.i l.order ≡ take l.i (keys_of (indexes rounded l.clusters))
