-- Products of lists of numbers: each number divides the product, and the others are what is left. Assumes nothing.
use Prim.Native.Nat.{ℕ, zero, suc, ◌*◌, ◌<◌}
use mathlib.Core.Path.{◌≡◌, refl, ap, ◌∙◌}
use mathlib.Core.List.{List, [], ◌∷◌, foldr}
use native.Mathlib.Nat.{mul-pos, mul_left_comm, le_of_suc-le-suc, not-suc-le-zero}
use lib.ListN.{length, get_or}
use lib.Dec.{lit<}
use Rattle.spec.specs.Lists.{All}

abbrev pub product : List ℕ → ℕ
product xs = foldr ◌*◌ 1 xs

pub product-positive : {xs : List ℕ} → All (λ x. 0 < x) xs → 0 < product xs
product-positive All.none = lit< tt
product-positive (All.more p ps) = mul-pos p (product-positive ps)

-- the product of all numbers but the one at place i
abbrev pub others : List ℕ → ℕ → ℕ
others [] i = 1
others (x ∷ xs) zero = product xs
others (x ∷ xs) (suc i) = x * others xs i

pub divides : (xs : List ℕ) (i d : ℕ) → i < length xs → product xs ≡ get_or xs i d * others xs i
divides [] i d h = absurd (not-suc-le-zero h)
divides (x ∷ xs) zero d h = refl
divides (x ∷ xs) (suc i) d h = ap (λ (z : ℕ). x * z) (divides xs i d (le_of_suc-le-suc h)) ∙ mul_left_comm x (get_or xs i d) (others xs i)
