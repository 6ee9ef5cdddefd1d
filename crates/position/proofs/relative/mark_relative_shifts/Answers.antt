use Prim.Native.Nat.{◌<◌}
use native.Mathlib.Omega.{arith}
use mathlib.Core.Path.{refl, sym, ap, ◌∙◌}
use lib.ListN.{length, get_or}
use lib.Seq.{map-set_same}
use mathlib.Core.List.{List}
use Rattle.std.proofs.Common.{◌≡◌, ℕ}
use Rattle.spec.specs.declared.Cluster.{Cluster}
use Rattle.spec.specs.Single.{+0}
use Rattle.spec.specs.Decode.{list_of}
use Rattle.spec.specs.Position.{marked}
use Rattle.spec.proofs.Loops.{scan-turn, scan-done}
use Rattle.job_rows.specs.Rows.{job_at}
use Rattle.text_order.proofs.Keys.{blank}
use Rattle.position.proofs.Marking.{marked-index, last, mark-start, marked-at}
use Rattle.position.proofs.relative.mark_relative_shifts.Goals as goal

pub loop-i-init : goal.loop-i-init
loop-i-init c = (refl, λ text offset en. mark-start (job_at c.args.s.now c.args.job) text offset c.args.clusters.now blank (omega arith))

pub loop-i-preserved : goal.loop-i-preserved
loop-i-preserved c =
    let a = c.args in
    let l = c.loop-i in
    let job = job_at a.s.now a.job in
    let h : l.i < length l.clusters = omega arith in
    let here = get_or l.clusters l.i blank in
    let angle : c.float_in-angle.result ≡ get_or job.rotate (get_or a.numbers.now l.i 0) +0 =
    c.float_in-angle.ensures ∙ ap (λ (bs : List ℕ). get_or (list_of bs) (get_or a.numbers.now l.i 0) +0) c.tail-rotate.ensures in (
      map-set_same (λ (c : Cluster). c.index) l.clusters l.i c.mark.result blank (ap (λ (c : Cluster). c.index) c.mark.ensures ∙ marked-index c.float_in-angle.result l.before here) ∙ l.invariant.0,
      λ text offset en.
          rw (c.mark.ensures ∙ marked-at job text offset a.numbers.now a.clusters.now l.clusters l.i c.float_in-angle.result l.before blank en l.invariant.0 h angle)
          (scan-turn last (marked job text offset) l.before l.clusters l.i blank h)
          ∙ l.invariant.1 text offset en,
    )

pub returns : goal.returns
returns c =
    let l = c.loop-i in (
      l.invariant.0,
      λ text offset en.
          sym (scan-done last (marked (job_at c.args.s.now c.args.job) text offset) l.before l.clusters l.i (omega arith)) ∙ l.invariant.1 text offset en,
    )
