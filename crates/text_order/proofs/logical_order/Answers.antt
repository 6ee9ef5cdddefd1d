-- `text_order::logical_order` meets its contract. Assumes nothing.
use mathlib.Core.Path.{sym}
use native.Mathlib.Omega.{arith}
use lib.ListN.{length}
use Rattle.spec.specs.Arithmetic.{indexes}
use Rattle.spec.specs.Cluster.{rounded}
use Rattle.text_order.proofs.Keys.{indexes-length, front-sorted}
use Rattle.text_order.proofs.logical_order.Goals as goal

pub returns : goal.returns
returns c =
    let cs = c.args.clusters.now in
    front-sorted (indexes rounded cs) _ c.sort.new.keys _ (length cs) (omega (arith, indexes-length cs)) (sym (indexes-length cs)) c.put_keys.ensures c.sort.ensures
