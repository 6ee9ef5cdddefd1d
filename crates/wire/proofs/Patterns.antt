-- The patterns of a NaN are those above an infinity's, the sign left out. Assumes nothing.
use Prim.Native.Nat.{ℕ, ◌%◌, ◌<◌}
use mathlib.Core.Path.{◌≡◌, refl, sym, ◌∙◌}
use mathlib.Core.Bool.{true, false≢true}
use lib.Ieee.{Float, nan, inf, fin, binary32, is_nan, of_bits, to_bits}
use lib.Ieee.Bits.{nan_bits_above, nan_bits_is}
use native.Mathlib.Omega.{arith}
use borrow.Author.Tests.{lt-ltb}

nan_is : (x : Float) → is_nan x ≡ true → x ≡ nan
unfolding is_nan
nan_is nan e = refl
nan_is (inf s) e = absurd (false≢true e)
nan_is (fin s m k) e = absurd (false≢true e)

-- the pattern that is written
pub nan_written : (x : Float) → is_nan x ≡ true → 0x7fc0_0000 ≡ to_bits binary32 x
unfolding to_bits
nan_written x e = rw (nan_is x e) refl

only_nan : (v : ℕ) → 2139095040 < v % 2147483648 → of_bits binary32 v ≡ nan
only_nan v h = nan_is _ (sym (nan_bits_is binary32 v) ∙ nan_bits_above binary32 v ∙ lt-ltb 2139095040 (v % 2147483648) h)

-- and so it is read
pub nan_read : (v : ℕ) → 2139095040 < v % 2147483648 → of_bits binary32 0x7fc0_0000 ≡ of_bits binary32 v
nan_read v h = only_nan 0x7fc0_0000 (omega arith) ∙ sym (only_nan v h)
