use mathlib.Core.Path.{refl, sym, ap, ◌∙◌}
use native.Mathlib.Omega.{arith}
use lib.Ieee.{Float}
use Rattle.spec.specs.Single.{+0, ◌+ᶠ◌}
use Rattle.spec.specs.Cluster.{rounded}
use Rattle.spec.specs.LengthAdjust.{taken_of}
use Rattle.length_adjust.specs.Marks.{marked_in}
use Rattle.length_adjust.proofs.Walks.{walk-on, walk-past, walk-done, add-taken, one_more, count-walk, map_at}
use Rattle.length_adjust.proofs.marked.Marked.taken.Goals as goal
use Rattle.length_adjust.proofs.marked.Marked.taken.Goals.{then-self-i-eq1, else-self-i-eq1}

pub loop-i-init : goal.loop-i-init
loop-i-init c = let a = c.args in (omega arith, refl, count-walk 0 (marked_in a.self.within a.self.marks.now) ∙ omega arith)

pub loop-i-preserved : goal.loop-i-preserved
loop-i-preserved c =
    let a = c.args in
    let l = c.loop-i in
    let add = add-taken a.span a.clusters.now in
    let h = c.loop-i-test.true in
    let sum = c.if-self-i-eq1.sum in
    let count = c.if-self-i-eq1.count in
    elim c.if-self-i-eq1.branch [
      | then-self-i-eq1 w ↦
          let more = w.taken_of-sum.ensures ∙ sym (map_at +0 (taken_of rounded a.span) a.clusters.now l.i _ (omega arith)) in (
            omega arith,
            walk-on add l.sum sum a.self.marks.now a.self.within.to l.i h (omega arith) w.if-self-i-eq1.true (w.sum-is ∙ ap (λ (x : Float). l.sum +ᶠ x) more) ∙ l.invariant.1,
            walk-on one_more l.count count a.self.marks.now a.self.within.to l.i h (omega arith) w.if-self-i-eq1.true w.count-is ∙ l.invariant.2,
          )
      | else-self-i-eq1 w ↦ (
        omega arith,
        walk-past add l.sum sum a.self.marks.now a.self.within.to l.i h (omega arith) w.if-self-i-eq1.false w.sum-is ∙ l.invariant.1,
        walk-past one_more l.count count a.self.marks.now a.self.within.to l.i h (omega arith) w.if-self-i-eq1.false w.count-is ∙ l.invariant.2,
      )
    ]

pub returns : goal.returns
returns c =
    let a = c.args in
    let l = c.loop-i in
    let sum = walk-done (add-taken a.span a.clusters.now) l.sum a.self.marks.now a.self.within.to l.i c.loop-i-test.false in
    let count = walk-done one_more l.count a.self.marks.now a.self.within.to l.i c.loop-i-test.false in
    rw (← l.invariant.1, ← l.invariant.2, sum, count)
