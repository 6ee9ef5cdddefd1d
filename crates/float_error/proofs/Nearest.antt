-- Rounding to nearest: `round binary32` goes at most half a unit from its fraction, or at most 2 ^ -24 of the fraction. Assumes nothing.
-- The fraction is n / c, in units of the format's smallest value.
use mathlib.Core.Path.{◌≡◌, refl, sym, subst}
use mathlib.Core.Logic.{◌⊎◌, inl, inr}
use mathlib.Core.Bool.{not}
use Prim.Native.Nat.{ℕ, zero, suc, ◌+◌, ◌-◌, ◌*◌, ◌/◌, ◌%◌, ◌^◌, ◌≤◌, ◌<◌, compare, Ordering}
use native.Mathlib.Nat.{le_trans, le_of_eq, mod-lt, mul-pos, div-add-mod', le_of_mul-le-mul_right, le-div_iff_mul-le, eq-zero-or-pos}
use native.Mathlib.Omega.{arith}
use lib.Arith.{lt_of_le-ne}
use lib.Dec.{T, is_le, compare_is_eq, eqb, leb→le, nleb→lt, eqb→eq, eqb_refl}
use lib.Pow.{pow-add, pow_pos}
use lib.Ieee.{size, nearest}
use lib.Ieee.Digits.{size_reaches}
use lib.Ieee.Nearest.{closest}
use lib.Ieee.Order.{drop, kept}

-- |a - b| ≤ e
abbrev pub Within : ℕ → ℕ → ℕ → Type 0
Within a b e = (a ≤ b + e) × (b ≤ a + e)

-- ---- what `compare` says
abbrev Compared : Ordering → ℕ → ℕ → Type 0
Compared Ordering.lt a b = a < b
Compared Ordering.eq a b = a ≡ b
Compared Ordering.gt a b = b < a

compared : (a b : ℕ) → Compared (compare a b) a b
compared a b = go (compare a b) (leb→le a b) (nleb→lt a b) (eqb→eq a b) (λ (e : a ≡ b). subst (λ (x : ℕ). T (eqb a x)) e (eqb_refl a))
  where
    go : (o : Ordering) → (T (is_le o) → a ≤ b) → (T (not (is_le o)) → b < a) → (T (compare_is_eq o) → a ≡ b) → (a ≡ b → T (compare_is_eq o)) → Compared o a b
    go Ordering.lt h k e n = lt_of_le-ne (h tt) n
    go Ordering.eq h k e n = e tt
    go Ordering.gt h k e n = k tt

-- ---- a / b to the nearest whole number is at most a half away
even-or-odd : (q : ℕ) → (q % 2 ≡ 0) ⊎ (q % 2 ≡ 1)
even-or-odd q = elim (eq-zero-or-pos (q % 2)) [ inl z ↦ inl z | inr p ↦ inr (one q p) ]
  where
    one : (q : ℕ) → 0 < q % 2 → q % 2 ≡ 1
    one q h = omega arith

nearest-error : (a b q r : ℕ) (o : Ordering) → q * b + r ≡ a → r < b → Compared o (r * 2) b → Within (2 * (nearest q o * b)) (2 * a) b
nearest-error a b q r Ordering.lt e l c = omega arith
nearest-error a b q r Ordering.eq e l c = elim (even-or-odd q) [ inl z ↦ rw z (omega arith) | inr z ↦ rw z (omega arith) ]
nearest-error a b q r Ordering.gt e l c = omega arith

closest-error : (a b : ℕ) → 0 < b → Within (2 * (closest a b * b)) (2 * a) b
closest-error a b B = nearest-error a b (a / b) (a % b) (compare (a % b * 2) b) (div-add-mod' a b) (mod-lt a B) (compared (a % b * 2) b)

-- ---- what rounding n / c gives: `kept` has 24 digits, and `drop` more are dropped
abbrev pub rounded : ℕ → ℕ → ℕ
rounded n c = kept 24 n c * 2 ^ drop 24 n c

-- where digits are dropped, 24 are left
long : (n c : ℕ) → 0 < c → 0 < drop 24 n c → 2 ^ 23 * 2 ^ drop 24 n c * c ≤ n
long n c C K =
    let reached : 2 ^ (23 + drop 24 n c) ≤ n / c = size_reaches (n / c) (23 + drop 24 n c) (less (size (n / c)) K) in
    (le-div_iff_mul-le C).0 (le_trans (le_of_eq (sym (pow-add 2 23 (drop 24 n c)))) reached)
  where
    less : (z : ℕ) → 0 < z - 24 → 23 + (z - 24) < z
    less z h = omega arith

-- half a unit where no digit is dropped, and 2 ^ -24 of n / c otherwise
rounded-cases : (n c : ℕ) → 0 < c → (Within (2 * (rounded n c * c)) (2 * n) c) ⊎ (Within (2 ^ 24 * (rounded n c * c)) (2 ^ 24 * n) n)
rounded-cases n c C = go (drop 24 n c) refl (closest-error n (c * 2 ^ drop 24 n c) (mul-pos C (pow_pos (drop 24 n c)))) (long n c C)
  where
    one : (q : ℕ) → Within (2 * (q * (c * 1))) (2 * n) (c * 1) → Within (2 * (q * 1 * c)) (2 * n) c
    one q h = omega arith

    some : (q w : ℕ) → 2 ^ 23 * w * c ≤ n → Within (2 * (q * (c * w))) (2 * n) (c * w) → Within (2 ^ 24 * (q * w * c)) (2 ^ 24 * n) n
    some q w l h = omega arith

    positive : (k : ℕ) → 0 < suc k
    positive k = omega arith

    go : (k : ℕ) → drop 24 n c ≡ k → Within (2 * (kept 24 n c * (c * 2 ^ drop 24 n c))) (2 * n) (c * 2 ^ drop 24 n c)
        → (0 < drop 24 n c → 2 ^ 23 * 2 ^ drop 24 n c * c ≤ n)
        → (Within (2 * (rounded n c * c)) (2 * n) c) ⊎ (Within (2 ^ 24 * (rounded n c * c)) (2 ^ 24 * n) n)
    go zero e h l = inl (rw e (one (closest n (c * 2 ^ 0)) (rw e at h)))
    go (suc k) e h l = inr (some (kept 24 n c) (2 ^ drop 24 n c) (l (rw e (positive k))) h)

-- |rounded - n / c| ≤ n / c / 2 ^ 24 + 1 / 2
pub rounded-error : (n c : ℕ) → 0 < c → Within (2 ^ 24 * (rounded n c * c)) (2 ^ 24 * n) (n + 2 ^ 23 * c)
rounded-error n c C = elim (rounded-cases n c C) [ inl h ↦ small (rounded n c) h | inr h ↦ large (rounded n c) h ]
  where
    small : (g : ℕ) → Within (2 * (g * c)) (2 * n) c → Within (2 ^ 24 * (g * c)) (2 ^ 24 * n) (n + 2 ^ 23 * c)
    small g h = omega arith

    large : (g : ℕ) → Within (2 ^ 24 * (g * c)) (2 ^ 24 * n) n → Within (2 ^ 24 * (g * c)) (2 ^ 24 * n) (n + 2 ^ 23 * c)
    large g h = omega arith

-- where n / c is a whole number N of units, half a unit is none: |rounded - N| ≤ N / 2 ^ 24
pub whole-error : (n c N : ℕ) → 0 < c → n ≡ N * c → Within (2 ^ 24 * rounded n c) (2 ^ 24 * N) N
whole-error n c N C e = elim (rounded-cases n c C) [ inl h ↦ small (rounded n c) h | inr h ↦ large (rounded n c) h ]
  where
    none : (g : ℕ) → 2 * g ≤ 2 * N + 1 → 2 * N ≤ 2 * g + 1 → Within (2 ^ 24 * g) (2 ^ 24 * N) N
    none g h k = omega arith

    small : (g : ℕ) → Within (2 * (g * c)) (2 * n) c → Within (2 ^ 24 * g) (2 ^ 24 * N) N
    small g h =
        let a : 2 * g * c ≤ (2 * N + 1) * c = omega arith in
        let b : 2 * N * c ≤ (2 * g + 1) * c = omega arith in
        none g (le_of_mul-le-mul_right a C) (le_of_mul-le-mul_right b C)

    large : (g : ℕ) → Within (2 ^ 24 * (g * c)) (2 ^ 24 * n) n → Within (2 ^ 24 * g) (2 ^ 24 * N) N
    large g h =
        let a : 2 ^ 24 * g * c ≤ (2 ^ 24 * N + N) * c = omega arith in
        let b : 2 ^ 24 * N * c ≤ (2 ^ 24 * g + N) * c = omega arith in
        (le_of_mul-le-mul_right a C, le_of_mul-le-mul_right b C)
