-- Numbers in bytes, the highest byte first, for any width; and records one after the other. Definitions only.
use Rattle.std.specs.Prelude.{ℕ, zero, suc, ◌+◌, ◌-◌, ◌*◌, ◌/◌, ◌%◌, ◌^◌, Bool, true, cond, ◌&&◌, List, [], ◌∷◌, ◌++◌, get_or, drop, ltb, ℤ, pos, Float}
use Rattle.std.proofs.Math.IntN.{sub_ℕ}
use Rattle.std.specs.Float.{binary32}
use Rattle.std.specs.Float.Ieee.{of_bits, to_bits}

-- the number that the first k bytes hold; a byte that is missing counts as 0
unfoldable pub be : ℕ → List ℕ → ℕ
be zero bs = 0
be (suc k) bs = be k bs * 256 + get_or bs k 0

-- n in k bytes
unfoldable pub bytes : ℕ → ℕ → List ℕ
bytes zero n = []
bytes (suc k) n = bytes k (n / 256) ++ (n % 256 ∷ [])

-- the first k bytes as a signed number
unfoldable pub signed : ℕ → List ℕ → ℤ
signed k bs = let n = be k bs in cond (ltb n (2 ^ (8 * k - 1))) (pos n) (sub_ℕ n (2 ^ (8 * k)))

-- four bytes as a float, and a float as four bytes
unfoldable pub float : List ℕ → Float
float bs = of_bits binary32 (be 4 bs)

unfoldable pub float_bytes : Float → List ℕ
float_bytes x = bytes 4 (to_bits binary32 x)

-- ---- n records one after the other, each as long as `size` says of the bytes that it begins

unfoldable pub rows : {A : Type 0} → (List ℕ → ℕ) → (List ℕ → A) → ℕ → List ℕ → List A
rows size read zero bs = []
rows size read (suc n) bs = read bs ∷ rows size read n (drop (size bs) bs)

-- how many bytes they take
unfoldable pub sizes : (List ℕ → ℕ) → ℕ → List ℕ → ℕ
sizes size zero bs = 0
sizes size (suc n) bs = size bs + sizes size n (drop (size bs) bs)

-- each of them passes
unfoldable pub all_records : (List ℕ → ℕ) → (List ℕ → Bool) → ℕ → List ℕ → Bool
all_records size ok zero bs = true
all_records size ok (suc n) bs = ok bs && all_records size ok n (drop (size bs) bs)
