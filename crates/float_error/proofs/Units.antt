-- A finite binary32 float is a whole number of units of 2 ^ -149: its positive part less its negative part, of which one is 0. Assumes nothing.
use mathlib.Core.Path.{◌≡◌, refl, sym, ap, ◌∙◌}
use mathlib.Core.Logic.{◌⊎◌, inl, inr}
use mathlib.Core.Bool.{Bool, true, false, ◌&&◌}
use Prim.Native.Nat.{ℕ, zero, suc, ◌+◌, ◌-◌, ◌*◌, ◌/◌, ◌%◌, ◌^◌, ◌≤◌, ◌<◌}
use native.Mathlib.Nat.{le_of_eq, lt_of_le_of_lt, lt_of_not-le, not-le_of_lt, le_of_suc-le-suc, mul_assoc, mul_right_comm, mul-div_cancel, mul-lt-mul_of_pos_right}
use native.Mathlib.Omega.{arith}
use lib.IntN.{ℤ, pos, negsuc}
use lib.Dec.{T, leb, ltb, eqb, leb→le, eqb→eq, lit<, lit≤}
use lib.Pow.{pow-add, pow_pos, pow-lt}
use lib.Ieee.{Float, nan, inf, fin, binary32, up, down, fits}
use lib.Ieee.Fits.{down_pos, and_l, and_r}
use lib.Ieee.Scale.{finite}

-- ---- Numbers too long for `omega`, so they are shut: the units in 1; 2 ^ 127 in units, below the largest floats; 2 ^ 51 in units, far below those.
unfoldable pub unit : ℕ
unit = 2 ^ 149

unfoldable pub limit : ℕ
limit = 2 ^ 276

unfoldable pub reach : ℕ
reach = 2 ^ 200

pub unit-positive : 0 < unit
unfolding unit
unit-positive = pow_pos 149

pub unit-large : 2 ^ 100 ≤ unit
unfolding unit
unit-large = lit≤ tt

pub reach-units : 2 ^ 50 * unit ≤ reach
unfolding unit reach
reach-units = lit≤ tt

pub limit-positive : 0 < limit
unfolding limit
limit-positive = pow_pos 276

reach-below : 8 * reach < limit
unfolding reach limit
reach-below = lit< tt

pub reach-room : (D : ℕ) → 0 < D → 8 * (reach * D) < limit * D
reach-room D h = lt_of_le_of_lt (le_of_eq (sym (mul_assoc 8 reach D))) (mul-lt-mul_of_pos_right reach-below h)

-- the distance of p - n units from (P - N) / d units is at most E / (k * d) units
abbrev pub Apart : (k d p n P N E : ℕ) → Type 0
Apart k d p n P N E = (k * (p * d) + k * N ≤ k * P + k * (n * d) + E) × (k * P + k * (n * d) ≤ k * (p * d) + k * N + E)

-- ---- a size with a sign, true for negative, as the two parts of a difference
abbrev pub pos_of : Bool → ℕ → ℕ
pos_of true a = 0
pos_of false a = a

abbrev pub neg_of : Bool → ℕ → ℕ
neg_of true a = a
neg_of false a = 0

-- ---- a float's two parts, in units
abbrev pub pos_part : Float → ℕ
pos_part nan = 0
pos_part (inf s) = 0
pos_part (fin s m e) = pos_of s (m * up e * unit / down e)

abbrev pub neg_part : Float → ℕ
neg_part nan = 0
neg_part (inf s) = 0
neg_part (fin s m e) = neg_of s (m * up e * unit / down e)

-- its size, in units
abbrev pub size_of : Float → ℕ
size_of x = pos_part x + neg_part x

pub one-part : (x : Float) → (pos_part x ≡ 0) ⊎ (neg_part x ≡ 0)
one-part nan = inl refl
one-part (inf s) = inl refl
one-part (fin true m e) = inl refl
one-part (fin false m e) = inr refl

-- finite, and a whole number of units
abbrev pub InUnits : Float → Type 0
InUnits nan = ⊥
InUnits (inf s) = ⊥
InUnits (fin s m e) = m * up e * unit ≡ m * up e * unit / down e * down e

pub in-units-finite : (x : Float) → InUnits x → T (finite x)
in-units-finite nan g = absurd g
in-units-finite (inf s) g = absurd g
in-units-finite (fin s m e) g = tt

-- two sizes, over the product of their denominators
pub common : (x d A y e B : ℕ) → x * unit ≡ A * d → y * unit ≡ B * e → (x * e * unit ≡ A * (d * e)) × (y * d * unit ≡ B * (d * e))
common x d A y e B p q = (
  mul_right_comm x e unit ∙ ap (λ (z : ℕ). z * e) p ∙ mul_assoc A d e,
  mul_right_comm y d unit ∙ ap (λ (z : ℕ). z * d) q ∙ regroup,
)
  where
    regroup : B * e * d ≡ B * (d * e)
    regroup = omega arith

-- ---- every finite float of the format is a whole number of units
divides : (x u d k : ℕ) → 0 < d → u ≡ k * d → x * u ≡ x * u / d * d
divides x u d k D e =
    let r : x * u ≡ x * k * d = ap (λ (z : ℕ). x * z) e ∙ sym (mul_assoc x k d) in
    r ∙ ap (λ (z : ℕ). z * d) (sym (ap (λ (z : ℕ). z / d) r ∙ mul-div_cancel (x * k) D))

down-divides : (e : ℤ) → down e ≤ 2 ^ 149 → (k : ℕ) × (unit ≡ k * down e)
unfolding unit
down-divides (pos j) h = (2 ^ 149, one (2 ^ 149))
  where
    one : (x : ℕ) → x ≡ x * 1
    one x = omega arith
down-divides (negsuc j) h = (2 ^ (149 - suc j), ap (λ (z : ℕ). 2 ^ z) (part (pow-le h)) ∙ pow-add 2 (149 - suc j) (suc j))
  where
    pow-le : 2 ^ suc j ≤ 2 ^ 149 → suc j ≤ 149
    pow-le h = le_of_suc-le-suc (lt_of_not-le (λ (g : suc 149 ≤ suc j). not-le_of_lt (pow-lt g) h))

    part : suc j ≤ 149 → 149 ≡ 149 - suc j + suc j
    part h = omega arith

pub in-units : (x : Float) → T (fits binary32 x) → T (finite x) → InUnits x
unfolding fits
in-units nan f t = absurd t
in-units (inf s) f t = absurd t
in-units (fin s zero e) f t = divides (0 * up e) unit (down e) unit (down_pos e) (go (down e) (up e) (eqb→eq (up e * down e) 1 f))
  where
    go : (d u : ℕ) → u * d ≡ 1 → unit ≡ unit * d
    go zero u e = absurd (bad e)
      where
        bad : u * 0 ≡ 1 → ⊥
        bad e = omega arith
    go (suc zero) u e = omega arith
    go (suc (suc d)) u e = absurd (bad u e)
      where
        bad : (u : ℕ) → u * suc (suc d) ≡ 1 → ⊥
        bad zero e = omega arith
        bad (suc u) e = omega arith
in-units (fin s (suc m) e) f t =
    let odd = eqb (suc m % 2) 1 && ltb (suc m) (2 ^ 24) in
    let fine = leb (down e) (2 ^ 149) in
    let small = ltb (suc m * up e) (2 ^ 128 * down e) in
    let (k, p) = down-divides e (leb→le (down e) (2 ^ 149) (and_r odd fine (and_l (odd && fine) small f))) in
    divides (suc m * up e) unit (down e) k (down_pos e) p
