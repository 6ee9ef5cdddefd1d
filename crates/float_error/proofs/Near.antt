-- The conclusion: a finite float x lies within a bound b of a fraction q, said of the fractions themselves. Assumes nothing.
use mathlib.Core.Path.{◌≡◌}
use mathlib.Core.Logic.{◌⊎◌, inl, inr}
use mathlib.Core.Bool.{true, false}
use Prim.Native.Nat.{ℕ, ◌+◌, ◌-◌, ◌*◌, ◌^◌, ◌≤◌, ◌<◌}
use native.Mathlib.Nat.{eq-zero-or-pos, mul-pos, mul-le-mul_right}
use native.Mathlib.Omega.{arith}
use lib.IntN.{pos, negsuc}
use lib.Dec.{T, le→leb, lit<}
use lib.Ieee.{Float, fin, binary32, div}
use lib.Ieee.Scale.{finite}
use Rattle.float_error.specs.Fraction.{Frac, 0ᵠ, ◌-ᵠ◌, ◌/ᵠ◌, absᵠ, leᵠ, value_of}
use Rattle.float_error.proofs.Units.{Apart, pos_part, neg_part, in-units-finite}
use Rattle.float_error.proofs.CommonDenominator.{Reads, reads_as, reads-scale, reads-sub, reads-div, reads-abs, reads-le, reads-value}
use Rattle.float_error.proofs.Approx.{Approx}

-- x is finite and |x - q| ≤ b
abbrev pub Near : Float → Frac → Frac → Type 0
Near x q b = T (finite x) × T (leᵠ (absᵠ (value_of x -ᵠ q)) b)

one-zero : (a b : ℕ) → (a - b ≡ 0) ⊎ (b - a ≡ 0)
one-zero a b = elim (eq-zero-or-pos (a - b)) [ inl e ↦ inl e | inr h ↦ inr (less h) ]
  where
    less : 0 < a - b → b - a ≡ 0
    less h = omega arith

-- the bound is h / c, where h is R / D units
pub approx-near : {D S : ℕ} {x : Float} {P N E : ℕ} {q h : Frac} {R : ℕ} (c : ℕ) → 0 < c → Approx D S x P N E → Reads D q P N → Reads D h R 0
    → E * c ≤ 2 ^ 27 * R → Near x q (h /ᵠ c)
approx-near {D} {S} {x} {P} {N} {E} {q} {h} {R} c C a r t k =
    let A = pos_part x * D + N in
    let B = neg_part x * D + P in
    let difference : Reads D (value_of x -ᵠ q) A B = reads-sub (reads-value D x a.whole) r in
    let distance = reads-scale c (reads-abs (one-zero A B) (reads_as (A - B) (B - A) (parts A B) difference)) in
    let bound = reads-div c R 0 C (whole c R) (reads-scale c t) in (
      in-units-finite x a.whole,
      rw (reads-le (mul-pos a.scale.positive C) distance bound)
          (le→leb ((A - B + (B - A)) * c + 0) (R + 0 * c) (within (pos_part x) (neg_part x) a.near)),
    )
  where
    parts : (a b : ℕ) → a + (b - a) ≡ a - b + b
    parts a b = omega arith

    whole : (c R : ℕ) → R * c + c * 0 ≡ c * R + 0 * c
    whole c R = omega arith

    within : (p n : ℕ) → Apart (2 ^ 27) D p n P N E → (p * D + N - (n * D + P) + (n * D + P - (p * D + N))) * c + 0 ≤ R + 0 * c
    within p n b = go (p * D + N - (n * D + P) + (n * D + P - (p * D + N))) (omega arith)
      where
        go : (d : ℕ) → 2 ^ 27 * d ≤ E → d * c + 0 ≤ R + 0 * c
        go d h = omega (arith, mul-le-mul_right c h)

-- ---- at work: -1.5 is -3 / 2, and 1 / 3 as a float lies within 2 ^ -25 of 1 / 3 and not within 2 ^ -27
exactly : Near (fin true 3 (negsuc 0)) (record { num = negsuc 2; den = 2; above = lit< tt }) 0ᵠ
unfolding value_of
exactly = (tt, tt)

abbrev 1/3 : Float
1/3 = div binary32 (fin false 1 (pos 0)) (fin false 3 (pos 0))

third : Near 1/3 (record { num = pos 1; den = 3; above = lit< tt }) (record { num = pos 1; den = 2 ^ 25; above = lit< tt })
unfolding value_of div
third = (tt, tt)

not-closer : ¬ Near 1/3 (record { num = pos 1; den = 3; above = lit< tt }) (record { num = pos 1; den = 2 ^ 27; above = lit< tt })
unfolding value_of div
not-closer h = h.1
