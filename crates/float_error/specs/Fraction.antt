-- Fractions: pairs of whole numbers, the lower one above 0, compared by multiplying crosswise. Definitions only.
use Rattle.std.specs.Prelude.{ℕ, ◌*◌, ◌<◌, max, Bool, cond, ℤ, pos, neg_ℤ, nat_abs, ◌+ℤ◌, ◌*ℤ◌, Float}
use Rattle.std.proofs.Common.{mul-pos, lit<}
use Rattle.std.proofs.Math.Nat.{le-max_left}
use Rattle.std.specs.Int.Signed.{le_z, lt_z}
use Rattle.std.specs.Float.{nan, inf, fin}
use Rattle.std.specs.Float.Ieee.{up, down}
use Rattle.std.specs.Float.Ieee.Fits.{down_pos}

-- num ÷ den
pub record Frac : Type 0 where
  pub num : ℤ
  pub den : ℕ
  pub above : 0 < den

infixl 75 ◌+ᵠ◌ ◌-ᵠ◌
infixl 80 ◌·ᵠ◌ ◌/ᵠ◌
abbrev pub 0ᵠ : Frac
0ᵠ = record { num = pos 0; den = 1; above = lit< tt }

abbrev pub ◌+ᵠ◌ : Frac → Frac → Frac
a +ᵠ b = record { num = a.num *ℤ pos b.den +ℤ b.num *ℤ pos a.den; den = a.den * b.den; above = mul-pos a.above b.above }

abbrev pub negᵠ : Frac → Frac
negᵠ a = record { num = neg_ℤ a.num; den = a.den; above = a.above }

abbrev pub ◌-ᵠ◌ : Frac → Frac → Frac
a -ᵠ b = a +ᵠ negᵠ b

-- a whole number times a fraction
abbrev pub ◌·ᵠ◌ : ℤ → Frac → Frac
z ·ᵠ a = record { num = z *ℤ a.num; den = a.den; above = a.above }

-- divided by a whole number above 0; 0 would count as 1
abbrev pub ◌/ᵠ◌ : Frac → ℕ → Frac
a /ᵠ n = record { num = a.num; den = a.den * max 1 n; above = mul-pos a.above (le-max_left 1 n) }

-- the size, its sign dropped
abbrev pub absᵠ : Frac → Frac
absᵠ a = record { num = pos (nat_abs a.num); den = a.den; above = a.above }

abbrev pub ltᵠ : Frac → Frac → Bool
ltᵠ a b = lt_z (a.num *ℤ pos b.den) (b.num *ℤ pos a.den)

abbrev pub leᵠ : Frac → Frac → Bool
leᵠ a b = le_z (a.num *ℤ pos b.den) (b.num *ℤ pos a.den)

-- the fraction that a finite float's pattern names: m × 2 ^ e, with its sign. The others have none: who uses this says "finite" too
unfoldable pub value_of : Float → Frac
value_of nan = 0ᵠ
value_of (inf s) = 0ᵠ
value_of (fin s m e) = let n = pos (m * up e) in record { num = cond s (neg_ℤ n) n; den = down e; above = down_pos e }
