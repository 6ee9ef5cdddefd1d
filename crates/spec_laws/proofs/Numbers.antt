-- Reading what was written gives it back: numbers of any width, signed numbers, floats; whatever follows. Assumes nothing.
use Prim.Native.Nat.{ℕ, zero, suc, ◌+◌, ◌*◌, ◌/◌, ◌%◌, ◌^◌, ◌<◌}
use mathlib.Core.Path.{◌≡◌, refl, ap, ap₂, ◌∙◌}
use mathlib.Core.List.{List, [], ◌∷◌, ◌++◌, append_assoc}
use native.Mathlib.Nat.{div-add-mod', div-lt_iff_lt-mul, pow-suc}
use native.Mathlib.Numerals.{add-one}
use native.Mathlib.Omega.{arith}
use lib.ListN.{length, length-append}
use lib.Seq.{get_or_at}
use lib.Dec.{T, lit<}
use lib.Ieee.{Float, binary32, fits, to_bits}
use lib.Ieee.Bits.{of_bits-to_bits, to_bits-lt}
use Rattle.spec.specs.Bytes.{be, bytes, float, float_bytes}

-- n in k bytes is k bytes long
pub length-bytes : (k n : ℕ) → length (bytes k n) ≡ k
unfolding bytes
length-bytes zero n = refl
length-bytes (suc k) n = length-append (bytes k (n / 256)) (n % 256 ∷ []) ∙ ap (λ (m : ℕ). m + 1) (length-bytes k (n / 256)) ∙ add-one k

pub length-float_bytes : (x : Float) → length (float_bytes x) ≡ 4
unfolding float_bytes
length-float_bytes x = length-bytes 4 (to_bits binary32 x)

-- the number that the k bytes of n hold is n, for any width k
pub be-bytes : (k n : ℕ) (rest : List ℕ) → n < 256 ^ k → be k (bytes k n ++ rest) ≡ n
unfolding be bytes
be-bytes zero n rest h = omega arith
be-bytes (suc k) n rest h =
    let upper : n / 256 < 256 ^ k = (div-lt_iff_lt-mul (lit< tt)).1 (rw pow-suc at h) in
    rw append_assoc
    (ap₂ (λ (a b : ℕ). a * 256 + b) (be-bytes k (n / 256) (n % 256 ∷ rest) upper) (get_or_at (bytes k (n / 256)) (n % 256) rest 0 k (length-bytes k (n / 256)))
    ∙ div-add-mod' n 256)

-- the float that the four bytes of x hold is x
pub float-float_bytes : (x : Float) (rest : List ℕ) → T (fits binary32 x) → float (float_bytes x ++ rest) ≡ x
unfolding float float_bytes
float-float_bytes x rest h = rw (be-bytes 4 (to_bits binary32 x) rest (to_bits-lt binary32 x h)) (of_bits-to_bits binary32 x h)
