-- Whole numbers as floats. Assumes nothing.
use Prim.Native.Nat.{◌≤◌, ◌<◌, ◌^◌}
use native.Mathlib.Omega.{arith}
use lib.Dec.{T}
use lib.IntN.{ℤ, pos, negsuc, nat_abs}
use lib.Ieee.{binary32, in_float}
use mir.Facts.{yes_leb, yes_ltb}

-- a small one can be cast
pub in-float : (z : ℤ) → nat_abs z ≤ 65535 → T (in_float binary32 z)
unfolding in_float
in-float (pos n) h = let k : n ≤ 2 ^ 24 = omega arith in yes_leb k
in-float (negsuc n) h = let k : n < 2 ^ 24 = omega arith in yes_ltb k
