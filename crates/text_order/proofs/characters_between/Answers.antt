-- `text_order::characters_between` meets its contract. Assumes nothing.
use mathlib.Core.Path.{refl, sym, ◌∙◌, ap₂}
use native.Mathlib.Omega.{arith}
use Prim.Native.Nat.{ℕ, ◌+◌}
use lib.ListN.{take, length-take}
use Rattle.spec.specs.Utf8.{characters}
use Rattle.text_order.proofs.Numbers.{characters-few, counted-turn}
use Rattle.text_order.proofs.characters_between.Goals as goal

pub loop-b-init : goal.loop-b-init
unfolding characters
loop-b-init c = refl

pub overflow_add-count : goal.overflow_add-count
overflow_add-count c =
    let l = c.loop-b in
    let part = c.tail-part.result.now in
    omega (arith, l.invariant, characters-few (take l.b-index part), length-take l.b-index part, c.starts-count.ensures.1)

pub loop-b-preserved : goal.loop-b-preserved
loop-b-preserved c =
    let l = c.loop-b in
    let part = c.tail-part.result.now in
    ap₂ (λ (n k : ℕ). n + k) l.invariant c.starts-count.ensures.0 ∙ sym (counted-turn part l.b-index (omega arith))
