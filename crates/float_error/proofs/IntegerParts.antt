-- An integer as its positive part less its negative part, of which one is 0: negation, sum, product and order in terms of the two. Assumes nothing.
use mathlib.Core.Path.{◌≡◌, refl, ◌∙◌}
use mathlib.Core.Bool.{Bool, true, false, not, cond}
use Prim.Native.Nat.{ℕ, zero, suc, ◌+◌, ◌-◌, ◌*◌, ◌≤◌, ◌<◌}
use native.Mathlib.Omega.{arith}
use lib.IntN.{ℤ, pos, negsuc, neg_ℤ, sub_ℕ, ◌+ℤ◌, ◌*ℤ◌}
use lib.Signed.{le_z, lt_z}
use lib.Dec.{T, leb, ltb, ltb→lt, nltb→le, le→leb, lt→ltb, leb→le}
use Rattle.float_error.proofs.Tests.{same_test, ltb-same, leb-same}

abbrev pub pos_partℤ : ℤ → ℕ
pos_partℤ (pos n) = n
pos_partℤ (negsuc n) = 0

abbrev pub neg_partℤ : ℤ → ℕ
neg_partℤ (pos n) = 0
neg_partℤ (negsuc n) = suc n

-- ---- the negative of a natural number
pub neg-plus : (n : ℕ) → pos_partℤ (neg_ℤ (pos n)) ≡ 0
neg-plus zero = refl
neg-plus (suc n) = refl

pub neg-minus : (n : ℕ) → neg_partℤ (neg_ℤ (pos n)) ≡ n
neg-minus zero = refl
neg-minus (suc n) = refl

-- ---- negation
pub plus-neg : (z : ℤ) → pos_partℤ (neg_ℤ z) ≡ neg_partℤ z
plus-neg (pos n) = neg-plus n
plus-neg (negsuc n) = refl

pub minus-neg : (z : ℤ) → neg_partℤ (neg_ℤ z) ≡ pos_partℤ z
minus-neg (pos n) = neg-minus n
minus-neg (negsuc n) = refl

-- ---- a product by a natural number, and any product
pub plus-scale : (z : ℤ) (k : ℕ) → pos_partℤ (z *ℤ pos k) ≡ pos_partℤ z * k
plus-scale (pos n) k = refl
plus-scale (negsuc n) k = neg-plus (suc n * k) ∙ none k
  where
    none : (k : ℕ) → 0 ≡ 0 * k
    none k = omega arith

pub minus-scale : (z : ℤ) (k : ℕ) → neg_partℤ (z *ℤ pos k) ≡ neg_partℤ z * k
minus-scale (pos n) k = none k
  where
    none : (k : ℕ) → 0 ≡ 0 * k
    none k = omega arith
minus-scale (negsuc n) k = neg-minus (suc n * k)

pub mul-parts : (z w : ℤ)
    → (pos_partℤ (z *ℤ w) ≡ pos_partℤ z * pos_partℤ w + neg_partℤ z * neg_partℤ w)
    × (neg_partℤ (z *ℤ w) ≡ pos_partℤ z * neg_partℤ w + neg_partℤ z * pos_partℤ w)
mul-parts (pos a) (pos b) = omega arith
mul-parts (pos a) (negsuc b) = rw (neg-plus (a * suc b), neg-minus (a * suc b)) (omega arith)
mul-parts (negsuc a) (pos b) = rw (neg-plus (suc a * b), neg-minus (suc a * b)) (omega arith)
mul-parts (negsuc a) (negsuc b) = omega arith

-- ---- a sum
sub_parts : (a b : ℕ) → pos_partℤ (sub_ℕ a b) + b ≡ neg_partℤ (sub_ℕ a b) + a
sub_parts a b = go (ltb a b) (ltb→lt a b) (nltb→le a b)
  where
    go : (c : Bool) → (T c → a < b) → (T (not c) → b ≤ a)
        → pos_partℤ (cond c (negsuc (b - suc a)) (pos (a - b))) + b ≡ neg_partℤ (cond c (negsuc (b - suc a)) (pos (a - b))) + a
    go true h k = omega (arith, h tt)
    go false h k = omega (arith, k tt)

pub add_parts : (z w : ℤ) → pos_partℤ (z +ℤ w) + (neg_partℤ z + neg_partℤ w) ≡ neg_partℤ (z +ℤ w) + (pos_partℤ z + pos_partℤ w)
add_parts (pos a) (pos b) = omega arith
add_parts (pos a) (negsuc b) = omega (arith, sub_parts a (suc b))
add_parts (negsuc a) (pos b) = omega (arith, sub_parts b (suc a))
add_parts (negsuc a) (negsuc b) = omega arith

-- ---- order
pub lt-parts : (z w : ℤ) → lt_z z w ≡ ltb (pos_partℤ z + neg_partℤ w) (pos_partℤ w + neg_partℤ z)
lt-parts (pos a) (pos b) = ltb-same a b (a + 0) (b + 0) (λ h. omega arith) (λ h. omega arith)
lt-parts (pos a) (negsuc b) = same_test false (ltb (a + suc b) (0 + 0)) (λ t. absurd t) (λ t. bad (ltb→lt (a + suc b) (0 + 0) t))
  where
    bad : a + suc b < 0 + 0 → ⊥
    bad h = omega arith
lt-parts (negsuc a) (pos b) = same_test true (ltb (0 + 0) (b + suc a)) (λ t. lt→ltb (0 + 0) (b + suc a) (omega arith)) (λ t. tt)
lt-parts (negsuc a) (negsuc b) = ltb-same b a (0 + suc b) (0 + suc a) (λ h. omega arith) (λ h. omega arith)

pub le_parts : (z w : ℤ) → le_z z w ≡ leb (pos_partℤ z + neg_partℤ w) (pos_partℤ w + neg_partℤ z)
le_parts (pos a) (pos b) = leb-same a b (a + 0) (b + 0) (λ h. omega arith) (λ h. omega arith)
le_parts (pos a) (negsuc b) = same_test false (leb (a + suc b) (0 + 0)) (λ t. absurd t) (λ t. bad (leb→le (a + suc b) (0 + 0) t))
  where
    bad : a + suc b ≤ 0 + 0 → ⊥
    bad h = omega arith
le_parts (negsuc a) (pos b) = same_test true (leb (0 + 0) (b + suc a)) (λ t. le→leb (0 + 0) (b + suc a) (omega arith)) (λ t. tt)
le_parts (negsuc a) (negsuc b) = leb-same b a (0 + suc b) (0 + suc a) (λ h. omega arith) (λ h. omega arith)
