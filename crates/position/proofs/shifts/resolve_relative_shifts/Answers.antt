use native.Mathlib.Omega.{arith}
use mathlib.Core.Path.{refl, ap, ◌∙◌}
use mathlib.Core.List.{List}
use lib.Ieee.{Float}
use lib.ListN.{length, get_or, length-take}
use lib.Seq.{map-set_same}
use Rattle.std.proofs.Common.{ℕ}
use Rattle.spec.specs.declared.Cluster.{Cluster}
use Rattle.spec.specs.Single.{◌+ᶠ◌, +0}
use Rattle.spec.specs.Decode.{list_of}
use Rattle.spec.specs.Position.{Shifting, resolve_relative_shifts}
use Rattle.job_rows.specs.Rows.{job_at}
use Rattle.text_order.proofs.Keys.{blank}
use Rattle.text_order.proofs.Order.{ordered-take}
use Rattle.position.proofs.TextOrder.{key-inside}
use Rattle.position.proofs.Shifting.{shift-turn}
use Rattle.position.proofs.shifts.resolve_relative_shifts.Goals as goal

pub loop-key-init : goal.loop-key-init
unfolding resolve_relative_shifts
loop-key-init c = (refl, λ text offset en. refl)

pub bounds-numbers-place : goal.bounds-numbers-place
bounds-numbers-place c = omega (arith, key-inside c.requires.1 c.loop-key.key-index (omega arith) c.place_of-place.ensures, c.requires.0)

pub bounds-clusters-place : goal.bounds-clusters-place
bounds-clusters-place c = omega (arith, key-inside c.requires.1 c.loop-key.key-index (omega arith) c.place_of-place.ensures)

pub loop-key-preserved : goal.loop-key-preserved
loop-key-preserved c =
    let a = c.args in
    let l = c.loop-key in
    let place = c.place_of-place.result in
    let k = get_or a.numbers.now place 0 in
    let few = length-take (length a.clusters.now) a.order.now in (
      map-set_same (λ (c : Cluster). c.index) l.clusters place _ blank refl ∙ l.invariant.0,
      λ text offset en.
          ap (λ (st : Shifting Float Cluster). st.clusters)
          (shift-turn (job_at a.s.now a.job) text offset a.clusters.now a.numbers.now l.x l.y l.clusters l.key-index _ _ place k
          (ordered-take c.requires.1) en (omega arith) (omega (arith, few)) c.place_of-place.ensures refl
          (ap (λ (z : Float). l.x +ᶠ z) (c.float_in-x.ensures ∙ ap (λ (bs : List ℕ). get_or (list_of bs) k +0) c.tail-dx.ensures))
          (ap (λ (z : Float). l.y +ᶠ z) (c.float_in-y.ensures ∙ ap (λ (bs : List ℕ). get_or (list_of bs) k +0) c.tail-dy.ensures)))
          ∙ l.invariant.1 text offset en,
    )
