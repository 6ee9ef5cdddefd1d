-- `layout::staging::has_room` meets its contract. Assumes nothing.
use Prim.Native.Nat.{ℕ, ◌*◌, ◌/◌, ◌<◌}
use mathlib.Core.Path.{◌≡◌, refl}
use mathlib.Core.Bool.{Bool, true, false}
use native.Mathlib.Nat.{div-lt_iff_lt-mul}
use native.Mathlib.Omega.{arith}
use lib.Dec.{ltb}
use borrow.Author.Tests.{ltb-true, ltb-false}
use Rattle.layout.proofs.staging.has_room.Goals as goal

-- a quotient is less exactly where the number is less than the product
quotient-less : (x y : ℕ) → ltb (x / 25) y ≡ ltb x (y * 25)
quotient-less x y = go (ltb (x / 25) y) (ltb x (y * 25)) refl refl
  where
    go : (a b : Bool) → ltb (x / 25) y ≡ a → ltb x (y * 25) ≡ b → a ≡ b
    go true true e f = refl
    go false false e f = refl
    go true false e f = let h : x < y * 25 = (div-lt_iff_lt-mul {k = 25} {x = x} {y = y} (omega arith)).0 (ltb-true (x / 25) y e) in absurd (omega (arith, ltb-false x (y * 25) f))
    go false true e f = let h : x / 25 < y = (div-lt_iff_lt-mul {k = 25} {x = x} {y = y} (omega arith)).1 (ltb-true x (y * 25) f) in absurd (omega (arith, ltb-false (x / 25) y e))

pub returns : goal.returns
returns c = quotient-less (64 * c.args.job) c.args.answer
