-- `length_adjust::find::find_clusters` meets its contract. Assumes nothing.
use Prim.Native.Nat.{ℕ, ◌+◌, ◌-◌, ◌/◌}
use mathlib.Core.Path.{◌≡◌, sym, ap, ◌∙◌}
use mathlib.Core.List.{[], ◌∷◌}
use native.Mathlib.Omega.{arith}
use lib.ListN.{length, set, take, drop}
use lib.Seq.{set_out}
use borrow.Author.Tests.{leb-true}
use Rattle.wire.proofs.Places.{take_rest}
use Rattle.spec_laws.proofs.All.{all-weaken, true-all}
use Rattle.sort.proofs.Ascending.{ascends-of-ascending}
use Rattle.length_adjust.specs.Marks.{mark, place_for, found, bytes_to}
use Rattle.length_adjust.proofs.Passed.{place_other, place_here}
use Rattle.length_adjust.proofs.Search.{Turned, turn, none-left, bytes-left, bytes-few, stays}
use Rattle.length_adjust.proofs.find.find_clusters.Goals as goal
use Rattle.length_adjust.proofs.find.find_clusters.Goals.{then-key-b, else-key-b}

pub loop-key-init : goal.loop-key-init
loop-key-init c =
    let a = c.args in
    let e : a.start + 0 ≡ a.start = omega arith in
    (omega arith, ascends-of-ascending a.keys.now c.requires.0, rw e (all-weaken (λ key t. leb-true a.start (key / 65536) t) (true-all _ a.keys.now c.requires.1)), rw e (omega arith), rw e)

pub overflow_add-b : goal.overflow_add-b
overflow_add-b c =
    let l = c.loop-key in
    let keys = c.args.keys.now in
    omega (arith, bytes-left l.rest.now c.in-Some.ensures.value l.invariant.2, bytes-few c.args.start keys (λ i. omega (arith, c.type_inv.keys i)), l.invariant.3)

-- the keys of byte b are passed, and its first cluster is marked
after : (c : goal.Joined-key-b) → let l = c.loop-key in let b = c.args.start + l.looked in
    Turned (length l.marks) b c.in-Some.key.now l.rest.now c.if-key-b.rest.now × (c.if-key-b.marks ≡ set l.marks (place_for (length l.marks) b (c.in-Some.key.now ∷ [])) 1)
after c =
    let l = c.loop-key in
    let rest = l.rest.now in
    let b = c.args.start + l.looked in
    let n = length l.marks in
    let key = c.in-Some.key.now in
    let here = c.in-Some.ensures.value in
    elim c.if-key-b.branch [
      | then-key-b w ↦
          let left : c.if-key-b.rest.now ≡ take (length rest - w.passed.result) (drop w.passed.result rest) = ap (λ r. r.now) w.rest-is in (
            turn n b here l.invariant.1 l.invariant.2 (left ∙ take_rest w.passed.result rest ∙ ap (λ (k : ℕ). drop k rest) w.passed.ensures.0),
            w.marks-is ∙ w.mark_cluster.ensures ∙ ap (λ (p : ℕ). set l.marks p 1) (sym (place_here n b key w.if-key-b.true)),
          )
      | else-key-b w ↦ (
        turn n b here l.invariant.1 l.invariant.2 (ap (λ r. r.now) w.rest-is ∙ sym (stays b rest here l.invariant.2 w.if-key-b.false)),
        w.marks-is ∙ sym (ap (λ (p : ℕ). set l.marks p 1) (place_other n b key w.if-key-b.false) ∙ set_out l.marks n 1 (omega arith)),
      )
    ]

pub loop-key-smaller : goal.loop-key-smaller
loop-key-smaller c = let next : c.args.start + (c.loop-key.looked + 1) ≡ c.args.start + c.loop-key.looked + 1 = omega arith in rw next (omega (arith, (after c).0.bytes))

pub loop-key-preserved : goal.loop-key-preserved
loop-key-preserved c =
    let l = c.loop-key in
    let next : c.args.start + (l.looked + 1) ≡ c.args.start + l.looked + 1 = omega arith in
    let turned = after c in
    let on = turned.0 in
    rw next (
      omega (arith, on.fewer, l.invariant.0),
      on.ascends,
      on.from,
      omega (arith, on.bytes, l.invariant.3),
      rw (turned.1, ← l.auto.marks) (sym (ap (mark l.marks) on.finds) ∙ rw (← l.auto.marks) at l.invariant.4),
    )

pub returns : goal.returns
unfolding bytes_to found
returns c =
    let l = c.loop-key in
    let none = none-left l.rest.now c.in_default.ensures.value in
    let left = rw none at l.invariant.3 in
    (omega (arith, left), rw none at l.invariant.4)
