use Prim.Native.Nat.{◌+◌, ◌<◌}
use mathlib.Core.Path.{◌≡◌, refl, ap, ◌∙◌}
use native.Mathlib.Nat.{not-suc-le-zero}
use native.Mathlib.Omega.{arith}
use lib.ListN.{length, get_or, take, length-take}
use Rattle.spec.specs.Position.{character_number}
use Rattle.text_order.proofs.Keys.{blank}
use Rattle.text_order.proofs.Order.{ordered-take, place_in, place_inside, index-rises, written-turn, written_all}
use Rattle.text_order.proofs.Numbers.{Next, none_before, walk-next}
use Rattle.text_order.proofs.character_numbers.Goals as goal

-- the next cluster's byte index and number
next-number : (c : goal.After-characters_between-number)
    → Next c.args.text.now (ordered-take c.requires.2) c.args.offset c.loop-key.at c.loop-key.key-index
    (get_or c.args.clusters.now (place_in (take (length c.args.clusters.now) c.args.order.now) c.loop-key.key-index) blank).index
    (c.loop-key.number + c.characters_between-number.result)
next-number c =
    let l = c.loop-key in
    walk-next c.args.text.now (ordered-take c.requires.2) c.args.offset l.at l.key-index (omega (arith, length-take (length c.args.clusters.now) c.args.order.now))
    l.invariant.1 blank refl l.invariant.0 (rw c.place_of-place.ensures at c.characters_between-number.ensures)

pub loop-key-init : goal.loop-key-init
loop-key-init c = (omega (arith, none_before c.args.text.now), λ h. omega arith, λ j h. absurd (not-suc-le-zero h))

pub bounds-clusters-place : goal.bounds-clusters-place
bounds-clusters-place c =
    let h : c.loop-key.key-index < length c.args.clusters.now = omega (arith, length-take (length c.args.clusters.now) c.args.order.now) in
    omega (arith, c.place_of-place.ensures, place_inside (ordered-take c.requires.2) c.loop-key.key-index h)

pub overflow_add-number : goal.overflow_add-number
overflow_add-number c = omega (arith, (next-number c).small, c.requires.0)

pub overflow_cast-numbers : goal.overflow_cast-numbers
overflow_cast-numbers c = omega (arith, (next-number c).small, c.requires.0)

pub bounds-numbers-place : goal.bounds-numbers-place
bounds-numbers-place c =
    let h : c.loop-key.key-index < length c.args.clusters.now = omega (arith, length-take (length c.args.clusters.now) c.args.order.now) in
    omega (arith, c.place_of-place.ensures, place_inside (ordered-take c.requires.2) c.loop-key.key-index h)

pub loop-key-preserved : goal.loop-key-preserved
loop-key-preserved c =
    let a = c.args in
    let l = c.loop-key in
    let n = length-take (length a.clusters.now) a.order.now in
    let o = ordered-take c.requires.2 in
    let next = next-number c in (
      rw c.place_of-place.ensures next.number,
      λ h. rw c.place_of-place.ensures (omega (arith, next.there, index-rises o l.key-index h)),
      rw c.place_of-place.ensures (written-turn o (character_number a.text.now a.offset) l.numbers l.key-index _ (omega (arith, n)) (omega arith)
          (next.number ∙ ap (character_number a.text.now a.offset) next.there) l.invariant.2),
    )

pub returns : goal.returns
returns c =
    let a = c.args in
    let l = c.loop-key in
    let e : l.key-index ≡ length a.clusters.now = omega (arith, length-take (length a.clusters.now) a.order.now) in
    written_all (ordered-take c.requires.2) (character_number a.text.now a.offset) l.numbers (omega arith) (rw e at l.invariant.2)
