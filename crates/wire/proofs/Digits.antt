-- Numbers in bytes, for any width: one byte more, and how large they get. Assumes nothing.
use Prim.Native.Nat.{ℕ, zero, suc, ◌+◌, ◌*◌, ◌^◌, ◌≤◌, ◌<◌}
use mathlib.Core.Path.{◌≡◌, refl, ◌∙◌, ap₂}
use mathlib.Core.List.{List, []}
use native.Mathlib.Numerals.{add-one}
use native.Mathlib.Nat.{pow-suc, pow-le-pow_right}
use native.Mathlib.Omega.{arith}
use lib.ListN.{get_or, length, take, drop, drop_of_length-le}
use lib.Seq.{length-take-le}
use Rattle.std.proofs.Common.{get_or-take}
use lib.Dec.{lit<}
use Rattle.spec.specs.Bytes.{be}

-- one byte more
pub be-step : (bs : List ℕ) (i : ℕ) → be (i + 1) bs ≡ be i bs * 256 + get_or bs i 0
unfolding be
be-step bs i = rw add-one

-- bytes that are the same hold the same number
pub be-same : (k : ℕ) (a b : List ℕ) → ((i : ℕ) → i < k → get_or a i 0 ≡ get_or b i 0) → be k a ≡ be k b
unfolding be
be-same zero a b h = refl
be-same (suc k) a b h = ap₂ (λ (n d : ℕ). n * 256 + d) (be-same k a b (λ i l. h i (omega arith))) (h k (omega arith))

-- no bytes hold 0
be-none : (k : ℕ) → 0 ≡ be k []
unfolding be
be-none zero = refl
be-none (suc k) = rw (← be-none k)

pub be-past : (k at : ℕ) (bs : List ℕ) → length bs ≤ at → 0 ≡ be k (drop at bs)
be-past k at bs h = rw (drop_of_length-le bs {i = at} h) (be-none k)

-- the first w bytes of more, where w is k
pub first_bytes : (k w n : ℕ) (bs : List ℕ) {xs : List ℕ} → xs ≡ take w bs → w ≡ k → k ≤ length bs
    → (n ≡ be (length xs) xs) × (n < 256 ^ length xs) → (n ≡ be k bs) × (n < 256 ^ k)
first_bytes k w n bs e q h f =
    let l : length (take k bs) ≡ k = length-take-le k bs h in
    let g = rw (e, q, l) at f in
    (g.0 ∙ be-same k (take k bs) bs (λ i lt. get_or-take k bs i 0 lt), g.1)

-- i bytes and one more are below 256 to the power i + 1
pub below_step : (n b i : ℕ) → n < 256 ^ i → b < 256 → n * 256 + b < 256 ^ (i + 1)
below_step n b i h k = rw (add-one, pow-suc) (omega arith)

-- fewer than w bytes, and one more, are below 256 to the power w
pub below-width : (n i w : ℕ) → n < 256 ^ i → i ≤ w → n < 256 ^ w
below-width n i w h k = let p : 256 ^ i ≤ 256 ^ w = pow-le-pow_right (lit< tt) k in omega arith

-- 0 is below every power
pub none_below : (k : ℕ) → 0 < 256 ^ k
none_below k = below-width 0 0 k (omega arith) (omega arith)
