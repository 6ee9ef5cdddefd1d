-- What the tables show of numbers: floats by their patterns.
use Prim.Native.Nat.{ℕ}
use lib.IntN.{pos, neg_ℤ}
use lib.Ieee.{Float, binary32, of_int, to_bits}

unfoldable pub bits : Float → ℕ
bits x = to_bits binary32 x

-- the pattern of a whole number, and of one below zero
unfoldable pub whole : ℕ → ℕ
whole n = bits (of_int binary32 (pos n))

unfoldable pub below : ℕ → ℕ
below n = bits (of_int binary32 (neg_ℤ (pos n)))

-- minus zero
unfoldable pub -0 : ℕ
-0 = 0x80000000

-- ---- opens all of these, for computed tests
unfoldable pub shown : Unit {0}
unfolding bits whole below -0
shown = tt
