-- Two's complement: the bits of a number in bytes, read as signed, are the signed number that the bytes hold. Assumes nothing.
use Prim.Native.Nat.{ℕ, ◌-◌, ◌*◌, ◌^◌, ◌<◌}
use mathlib.Core.Path.{◌≡◌, refl, ◌∙◌}
use mathlib.Core.Bool.{Bool, true, false, cond}
use mathlib.Core.List.{List}
use borrow.Author.Tests.{lt-ltb}
use lib.Dec.{ltb}
use lib.IntN.{ℤ, pos, sub_ℕ}
use mir.Syntax.{Width}
use mir.Val.{to_z, of_z, sel, SFits, bits, hbits}
use mir.Facts.{to_z-of_z}
use Rattle.spec.specs.Bytes.{be, signed}

sel-cond : (b : Bool) (x y : ℤ) → sel b x y ≡ cond b x y
sel-cond true x y = refl
sel-cond false x y = refl

-- the bits n of a number of k bytes
two_complement : (w : Width) (k n : ℕ) → bits w ≡ 8 * k → hbits w ≡ 8 * k - 1 → n < 2 ^ bits w
    → to_z w n ≡ cond (ltb n (2 ^ (8 * k - 1))) (pos n) (sub_ℕ n (2 ^ (8 * k)))
two_complement w k n b h l = rw (← h, ← b, lt-ltb n (2 ^ bits w) l) (sel-cond (ltb n (2 ^ hbits w)) _ _)

-- z has the bits of the number that the k bytes hold
pub signed_bits : (w : Width) (k : ℕ) (bs : List ℕ) (z : ℤ) → bits w ≡ 8 * k → hbits w ≡ 8 * k - 1 → be k bs < 2 ^ bits w
    → SFits w z → z ≡ to_z w (be k bs) → to_z w (of_z w z) ≡ signed k bs
unfolding signed
signed_bits w k bs z b h l f q = to_z-of_z f ∙ q ∙ two_complement w k (be k bs) b h l
