use mathlib.Core.Path.{sym, ap, ◌∙◌}
use native.Mathlib.Omega.{arith}
use lib.ListN.{set}
use Rattle.spec.specs.Lists.{modify}
use Rattle.length_adjust.proofs.Walks.{walk-on, walk-past, walk-done, modify-at}
use Rattle.length_adjust.proofs.marked.Marked.change.Goals as goal
use Rattle.length_adjust.proofs.marked.Marked.change.Goals.{then-self-i-eq1, else-self-i-eq1}

pub loop-i-preserved : goal.loop-i-preserved
loop-i-preserved g c =
    let a = c.args in
    let l = c.loop-i in
    let then = c.if-self-i-eq1.clusters in
    let h = c.loop-i-test.true in (
      l.invariant.0,
      λ f same. elim c.if-self-i-eq1.branch [
        | then-self-i-eq1 w ↦
            walk-on (modify f) l.clusters then a.self.marks.now a.self.within.to l.i h (omega arith) w.if-self-i-eq1.true
            (w.clusters-is ∙ ap (set l.clusters l.i) (same _ _ w.f.ensures) ∙ modify-at f l.clusters l.i _ (omega arith))
            ∙ l.invariant.1 f same
        | else-self-i-eq1 w ↦ walk-past (modify f) l.clusters then a.self.marks.now a.self.within.to l.i h (omega arith) w.if-self-i-eq1.false w.clusters-is ∙ l.invariant.1 f same
      ],
    )

pub returns : goal.returns
returns g c = λ f same. sym (walk-done (modify f) c.loop-i.clusters c.args.self.marks.now c.args.self.within.to c.loop-i.i c.loop-i-test.false) ∙ c.loop-i.invariant.1 f same
