-- Whole numbers below 2 ^ 24 are floats exactly: `of_int` rounds none of them. Assumes nothing.
use mathlib.Core.Path.{◌≡◌}
use mathlib.Core.Bool.{Bool, true, false}
use Prim.Native.Nat.{ℕ, suc, ◌*◌, ◌^◌, ◌≤◌, ◌<◌}
use native.Mathlib.Nat.{lt_of_lt_of_le, mul-lt-mul_of_pos_right}
use native.Mathlib.Omega.{arith}
use lib.IntN.{ℤ, pos, negsuc, nat_abs}
use lib.Dec.{T, leb, leb→le}
use lib.Pow.{pow_pos}
use lib.Ieee.{binary32, round, of_int}
use lib.Ieee.Exact.{HasValue, round_exact}

abbrev pub is_negative : ℤ → Bool
is_negative (pos n) = false
is_negative (negsuc n) = true

pub of_int-exact : (z : ℤ) → nat_abs z < 2 ^ 24 → HasValue (of_int binary32 z) (is_negative z) (nat_abs z) 1
unfolding of_int
of_int-exact z h = go z h
  where
    one : (x : ℕ) → x ≡ x * 1
    one x = omega arith

    top : T (leb (2 ^ 24 * 2 ^ 149) (2 ^ 277)) → 2 ^ 24 * 2 ^ 149 ≤ 2 ^ 277
    top t = leb→le (2 ^ 24 * 2 ^ 149) (2 ^ 277) t

    exact : (s : Bool) (n : ℕ) → n < 2 ^ 24 → HasValue (round binary32 s n 1) s n 1
    exact s n h =
        round_exact binary32 s n 1 n 149 (pow_pos 0) h (lt_of_lt_of_le (mul-lt-mul_of_pos_right h (pow_pos 149)) (top tt)) (one (n * 2 ^ 149))

    go : (z : ℤ) → nat_abs z < 2 ^ 24 → HasValue (of_int binary32 z) (is_negative z) (nat_abs z) 1
    go (pos n) h = exact false n h
    go (negsuc n) h = exact true (suc n) h
