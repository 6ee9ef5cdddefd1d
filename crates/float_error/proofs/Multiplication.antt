-- Products of floats. One by a whole number is within 2 ^ -24 of the exact one, which is a whole number of units; any other may lose half a unit
-- besides. Assumes nothing.
use mathlib.Core.Path.{◌≡◌, ap, ◌∙◌}
use mathlib.Core.Bool.{Bool, true, false}
use Prim.Native.Nat.{ℕ, ◌+◌, ◌*◌, ◌/◌, ◌^◌, ◌≤◌, ◌<◌}
use native.Mathlib.Nat.{lt_of_le_of_lt, mul-pos, mul_comm, mul_assoc}
use native.Mathlib.Omega.{arith}
use lib.Ieee.{Float, nan, inf, fin, binary32, unlike, up, down, mul}
use lib.Ieee.Fits.{down_pos}
use lib.Ieee.Exact.{HasValue}
use Rattle.float_error.proofs.Nearest.{Within}
use Rattle.float_error.proofs.Units.{unit, unit-positive, limit, pos_of, neg_of, pos_part, neg_part, InUnits}
use Rattle.float_error.proofs.RoundedTo.{RoundedTo, rounded-as, round-near, round_whole}

exchange : (a b c d : ℕ) → a * b * (c * d) ≡ a * c * (b * d)
exchange a b c d = omega arith

-- ---- the two parts of a product of A and B with the signs s and t
sign-product : (s t : Bool) (A B : ℕ)
    → pos_of (unlike s t) (A * B) + (pos_of s A * neg_of t B + neg_of s A * pos_of t B)
    ≡ pos_of s A * pos_of t B + neg_of s A * neg_of t B + neg_of (unlike s t) (A * B)
sign-product true true A B = omega arith
sign-product true false A B = omega arith
sign-product false true A B = omega arith
sign-product false false A B = omega arith

-- and their size
size-product : (s t : Bool) (A B M : ℕ) → Within (pos_of s A * pos_of t B + neg_of s A * neg_of t B) (pos_of s A * neg_of t B + neg_of s A * pos_of t B) M
    → A * B ≤ M
size-product true true A B M w = omega arith
size-product true false A B M w = omega arith
size-product false true A B M w = omega arith
size-product false false A B M w = omega arith

-- ---- M bounds the size of the exact result

-- W times y, for a float x that is the whole number W with the sign s
pub mul-near : (x : Float) (s : Bool) (W : ℕ) (y : Float) (M : ℕ) → HasValue x s W 1 → InUnits y
    → Within (pos_of s W * pos_part y + neg_of s W * neg_part y) (pos_of s W * neg_part y + neg_of s W * pos_part y) M → M < limit
    → RoundedTo (mul binary32 x y) 1 (pos_of s W * pos_part y + neg_of s W * neg_part y) (pos_of s W * neg_part y + neg_of s W * pos_part y) M
unfolding mul
mul-near nan s W y M v gy w h = absurd v
mul-near (inf t) s W y M v gy w h = absurd v
mul-near (fin t m e) s W nan M v gy w h = absurd gy
mul-near (fin t m e) s W (inf r) M v gy w h = absurd gy
mul-near (fin t m e) s W (fin r n d) M v gy w h =
    let den = mul-pos (down_pos e) (down_pos d) in
    let small = size-product s r W B M w in
    let z = round_whole (unlike s r) (m * up e * (n * up d)) (down e * down d) (W * B) den scale (lt_of_le_of_lt small h) in
    rw v.0
    (rounded-as (pos_of s W * pos_of r B + neg_of s W * neg_of r B) (pos_of s W * neg_of r B + neg_of s W * pos_of r B) M (sign-product s r W B) small z)
  where
    B : ℕ
    B = n * up d * unit / down d

    scale : m * up e * (n * up d) * unit ≡ W * B * (down e * down d)
    scale =
        ap (λ (z : ℕ). z * (n * up d) * unit) (one (m * up e) ∙ v.1) ∙ mul_assoc (W * down e) (n * up d) unit
        ∙ ap (λ (z : ℕ). W * down e * z) gy ∙ exchange W (down e) B (down d)
      where
        one : (x : ℕ) → x ≡ x * 1
        one x = omega arith

-- the product of any two: in units it is A * B / unit
pub product-near : (x y : Float) (M : ℕ) → InUnits x → InUnits y
    → Within (pos_part x * pos_part y + neg_part x * neg_part y) (pos_part x * neg_part y + neg_part x * pos_part y) M → M < limit * unit
    → RoundedTo (mul binary32 x y) unit (pos_part x * pos_part y + neg_part x * neg_part y) (pos_part x * neg_part y + neg_part x * pos_part y)
    (M + 2 ^ 23 * unit)
unfolding mul
product-near nan y M gx gy w h = absurd gx
product-near (inf s) y M gx gy w h = absurd gx
product-near (fin s m e) nan M gx gy w h = absurd gy
product-near (fin s m e) (inf t) M gx gy w h = absurd gy
product-near (fin s m e) (fin t n d) M gx gy w h =
    let den = mul-pos (down_pos e) (down_pos d) in
    let small = size-product s t A B M w in
    rounded-as (pos_of s A * pos_of t B + neg_of s A * neg_of t B) (pos_of s A * neg_of t B + neg_of s A * pos_of t B) (M + 2 ^ 23 * unit)
    (sign-product s t A B) (more (A * B) unit small)
    (round-near (unlike s t) (m * up e * (n * up d)) (down e * down d) unit (A * B) unit (down e * down d) den den
    scale (mul_comm (down e * down d) unit) unit-positive (lt_of_le_of_lt small h))
  where
    A : ℕ
    A = m * up e * unit / down e

    B : ℕ
    B = n * up d * unit / down d

    more : (a u : ℕ) → a ≤ M → a + 2 ^ 23 * u ≤ M + 2 ^ 23 * u
    more a u h = omega arith

    scale : m * up e * (n * up d) * unit * unit ≡ A * B * (down e * down d)
    scale =
        regroup (m * up e) (n * up d) unit ∙ ap (λ (z : ℕ). z * (n * up d * unit)) gx ∙ ap (λ (z : ℕ). A * down e * z) gy
        ∙ exchange A (down e) B (down d)
      where
        regroup : (a b u : ℕ) → a * b * u * u ≡ a * u * (b * u)
        regroup a b u = omega arith
