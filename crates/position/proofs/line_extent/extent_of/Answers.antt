use native.Mathlib.Omega.{arith}
use mathlib.Core.Path.{◌∙◌}
use Rattle.spec.specs.declared.Cluster.{Cluster}
use Rattle.spec.specs.Position.{extent_next}
use Rattle.spec.specs.Cluster.{rounded}
use Rattle.spec.proofs.Loops.{fold-turn}
use Rattle.text_order.proofs.Keys.{blank}
use Rattle.position.specs.Given.{extent_in}
use Rattle.position.proofs.TextOrder.{part-at}
use Rattle.position.proofs.line_extent.extent_of.Goals as goal

pub loop-c-init : goal.loop-c-init
loop-c-init c = rw (part-at (λ (c : Cluster). c.x) c.args.clusters.now 0 blank (omega arith))

pub loop-c-preserved : goal.loop-c-preserved
loop-c-preserved c =
    let l = c.loop-c in
    rw c.extent_next-e.ensures (fold-turn (extent_next rounded) (extent_in l.e) c.args.clusters.now l.c-index blank (omega arith)) ∙ l.invariant
