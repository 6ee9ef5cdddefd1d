-- Tests on natural numbers that pass together are equal, and two numbers stand to each other as two others that balance them. Assumes nothing.
use mathlib.Core.Path.{◌≡◌, refl, sym}
use mathlib.Core.Bool.{Bool, true, false, not, ◌&&◌}
use Prim.Native.Nat.{ℕ, ◌+◌, ◌*◌, ◌≤◌, ◌<◌}
use native.Mathlib.Nat.{le_of_eq, le_antisymm, mul-le-mul_right, le_of_mul-le-mul_right, lt_of_mul-lt-mul_right, mul-lt-mul_of_pos_right}
use native.Mathlib.Omega.{arith}
use lib.Dec.{T, leb, ltb, eqb, eqb→eq, leb→le, le→leb, ltb→lt, lt→ltb, nltb→le, nleb→lt}
use lib.Ieee.Fits.{and_i, and_l, and_r, eq→eqb}

pub same_test : (a b : Bool) → (T a → T b) → (T b → T a) → a ≡ b
same_test true true f g = refl
same_test true false f g = absurd (f tt)
same_test false true f g = absurd (g tt)
same_test false false f g = refl

pub ltb-same : (a b c d : ℕ) → (a < b → c < d) → (b ≤ a → d ≤ c) → ltb a b ≡ ltb c d
ltb-same a b c d f g = same_test (ltb a b) (ltb c d) (λ t. lt→ltb c d (f (ltb→lt a b t))) (back (ltb a b) (nltb→le a b))
  where
    bad : c < d → d ≤ c → ⊥
    bad h k = omega arith

    back : (o : Bool) → (T (not o) → b ≤ a) → T (ltb c d) → T o
    back true k t = tt
    back false k t = absurd (bad (ltb→lt c d t) (g (k tt)))

pub leb-same : (a b c d : ℕ) → (a ≤ b → c ≤ d) → (b < a → d < c) → leb a b ≡ leb c d
leb-same a b c d f g = same_test (leb a b) (leb c d) (λ t. le→leb c d (f (leb→le a b t))) (back (leb a b) (nleb→lt a b))
  where
    bad : c ≤ d → d < c → ⊥
    bad h k = omega arith

    back : (o : Bool) → (T (not o) → b < a) → T (leb c d) → T o
    back true k t = tt
    back false k t = absurd (bad (leb→le c d t) (g (k tt)))

pub eqb-both : (a b : ℕ) → eqb a b ≡ (leb a b && leb b a)
eqb-both a b =
    same_test (eqb a b) (leb a b && leb b a)
    (λ t. and_i (leb a b) (leb b a) (le→leb a b (le_of_eq (eqb→eq a b t))) (le→leb b a (le_of_eq (sym (eqb→eq a b t)))))
    (λ t. eq→eqb (le_antisymm (leb→le a b (and_l (leb a b) (leb b a) t)) (leb→le b a (and_r (leb a b) (leb b a) t))))

-- ---- m * k + q * l = n * k + p * l: p and q stand to each other as m and n do
module _ (m n p q k l : ℕ) (K : 0 < k) (L : 0 < l) (e : m * k + q * l ≡ n * k + p * l) where
  pub balance-lt : m < n → p < q
  balance-lt h =
      let a : m * k < n * k = mul-lt-mul_of_pos_right h K in
      let b : p * l < q * l = omega arith in
      lt_of_mul-lt-mul_right l b

  pub balance-ge : n ≤ m → q ≤ p
  balance-ge h =
      let a : n * k ≤ m * k = mul-le-mul_right k h in
      let b : q * l ≤ p * l = omega arith in
      le_of_mul-le-mul_right b L
