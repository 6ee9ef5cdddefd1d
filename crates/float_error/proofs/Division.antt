-- The quotient of a float by a whole number: within 2 ^ -24 of the exact one and half a unit. Assumes nothing.
use mathlib.Core.Path.{◌≡◌, refl, sym, ap, ◌∙◌, subst}
use mathlib.Core.Bool.{Bool, true, false}
use Prim.Native.Nat.{ℕ, zero, suc, ◌+◌, ◌*◌, ◌/◌, ◌^◌, ◌≤◌, ◌<◌}
use native.Mathlib.Nat.{le_trans, le_of_eq, lt_of_lt_of_le, lt_of_le_of_lt, mul-pos, mul_comm, mul_assoc, mul_right_comm, mul-le-mul_left}
use native.Mathlib.Omega.{arith}
use lib.Dec.{eqb-suc-zero}
use lib.Pow.{pow_pos}
use lib.Ieee.{Float, nan, inf, fin, binary32, unlike, up, down, round, div}
use lib.Ieee.Fits.{down_pos}
use lib.Ieee.Exact.{HasValue}
use Rattle.float_error.proofs.Nearest.{Within}
use Rattle.float_error.proofs.Units.{unit, limit, pos_of, neg_of, pos_part, neg_part, InUnits}
use Rattle.float_error.proofs.RoundedTo.{RoundedTo, rounded-as, round-near}

times-one : (x : ℕ) → x * 1 ≡ x
times-one x = omega arith

-- M bounds the size of x
pub div-near : (x y : Float) (c M : ℕ) → HasValue y false c 1 → 0 < c → InUnits x → Within (pos_part x) (neg_part x) M → M < limit
    → RoundedTo (div binary32 x y) c (pos_part x) (neg_part x) (M + 2 ^ 23 * c)
unfolding div
div-near nan y c M v C gx w h = absurd gx
div-near (inf s) y c M v C gx w h = absurd gx
div-near (fin s m e) nan c M v C gx w h = absurd v
div-near (fin s m e) (inf t) c M v C gx w h = absurd v
div-near (fin s m e) (fin t zero d) c M v C gx w h = absurd (bad (c * down d) (mul-pos C (down_pos d)) (sym v.1 ∙ none (up d)))
  where
    none : (u : ℕ) → 0 * u * 1 ≡ 0
    none u = omega arith

    bad : (x : ℕ) → 0 < x → x ≡ 0 → ⊥
    bad x h k = omega arith
div-near (fin s m e) (fin t (suc k) d) c M v C gx w h =
    rw (v.0, eqb-suc-zero k) (rounded-as (pos_of s A) (neg_of s A) (M + 2 ^ 23 * c) (same s) (more A (size s w)) quotient)
  where
    A : ℕ
    A = m * up e * unit / down e

    num : ℕ
    num = m * up e * down d

    den : ℕ
    den = suc k * up d * down e

    q : ℕ
    q = down e * down d

    Q : 0 < q
    Q = mul-pos (down_pos e) (down_pos d)

    top : num * unit ≡ A * q
    top = mul_right_comm (m * up e) (down d) unit ∙ ap (λ (z : ℕ). z * down d) gx ∙ mul_assoc A (down e) (down d)

    bottom : den ≡ c * q
    bottom =
        ap (λ (z : ℕ). z * down e) (sym (times-one (suc k * up d)) ∙ v.1) ∙ mul_assoc c (down d) (down e)
        ∙ ap (λ (z : ℕ). c * z) (mul_comm (down d) (down e))

    more : (a : ℕ) → a ≤ M → a + 2 ^ 23 * c ≤ M + 2 ^ 23 * c
    more a h = omega arith

    less : (a : ℕ) → a < limit → a < limit * c
    less a h = lt_of_lt_of_le h (le_trans (le_of_eq (sym (times-one limit))) (mul-le-mul_left limit C))

    size : (s : Bool) → Within (pos_of s A) (neg_of s A) M → A ≤ M
    size true w = omega arith
    size false w = omega arith

    quotient : RoundedTo (round binary32 (unlike s false) num den) c (pos_of (unlike s false) A) (neg_of (unlike s false) A) (A + 2 ^ 23 * c)
    quotient =
        round-near (unlike s false) num den c A 1 q (subst (λ (z : ℕ). 0 < z) (sym bottom) (mul-pos C Q)) Q
        (times-one (num * unit) ∙ top) (times-one den ∙ bottom) (pow_pos 0) (less A (lt_of_le_of_lt (size s w) h))

    same : (s : Bool) → pos_of (unlike s false) A + neg_of s A ≡ pos_of s A + neg_of (unlike s false) A
    same true = refl
    same false = refl
