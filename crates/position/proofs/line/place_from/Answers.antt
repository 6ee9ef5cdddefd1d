use Prim.Native.Nat.{◌+◌}
use native.Mathlib.Omega.{arith}
use mathlib.Core.Path.{refl, sym, ◌∙◌}
use lib.Seq.{drop-set-lt}
use Rattle.spec.specs.Position.{past_advance, placed_from}
use Rattle.spec.specs.Cluster.{rounded}
use Rattle.spec.proofs.Loops.{scan-turn, scan-done, fold-turn, fold_done}
use Rattle.text_order.proofs.Keys.{blank}
use Rattle.position.proofs.line.place_from.Invariants.{standing}
use Rattle.position.proofs.line.place_from.Goals as goal

pub loop-c-init : goal.loop-c-init
unfolding placed_from
loop-c-init c = (refl, refl)

pub loop-c-preserved : goal.loop-c-preserved
loop-c-preserved c =
    let l = c.loop-c in
    let i = l.c-index in (
      scan-turn (past_advance rounded) standing l.x l.clusters i blank (omega arith) ∙ l.invariant.0,
      rw (drop-set-lt (i + 1) l.clusters i _ (omega arith)) (fold-turn (past_advance rounded) l.x l.clusters i blank (omega arith)) ∙ l.invariant.1,
    )

pub returns : goal.returns
returns c =
    let l = c.loop-c in (
      sym (scan-done (past_advance rounded) standing l.x l.clusters l.c-index (omega arith)) ∙ l.invariant.0,
      sym (fold_done (past_advance rounded) l.x l.clusters l.c-index (omega arith)) ∙ l.invariant.1,
    )
