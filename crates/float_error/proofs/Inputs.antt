-- The inputs of a layout: floats whose tests passed are whole numbers of units of a known size, as `Operands` asks of them. Assumes nothing.
-- Constants stand as their bit patterns: 0x35800000 is 2 ^ -20, 0x49800000 is 2 ^ 20, 0x3d800000 is 1 / 16 and 0x45800000 is 4,096.
use mathlib.Core.Path.{◌≡◌, refl, sym, ap, ◌∙◌, subst}
use mathlib.Core.Logic.{◌⊎◌, inl, inr}
use mathlib.Core.Bool.{Bool, true, false, ◌&&◌, ◌||◌}
use Prim.Native.Nat.{ℕ, ◌+◌, ◌*◌, ◌/◌, ◌^◌, ◌≤◌}
use native.Mathlib.Nat.{mul-le-mul_right, eq_of_mul-eq-mul_right}
use native.Mathlib.Omega.{arith}
use lib.Dec.{T, eqb, leb→le, eqb→eq}
use lib.Ieee.{Float, nan, inf, fin, binary32, up, down, fits, le, lt, eq, neg, of_bits, to_bits}
use lib.Ieee.Bits.{of_bits-fits, of_bits-to_bits}
use lib.Ieee.Fits.{down_pos, and_l, and_r}
use lib.Ieee.Exact.{HasValue}
use lib.Ieee.Scale.{finite}
use Rattle.float_error.proofs.Units.{unit, unit-positive, pos_part, neg_part, size_of, one-part, InUnits, in-units}
use Rattle.float_error.proofs.Addition.{negated}
use Rattle.float_error.proofs.Compare.{le-units, eq-units}

-- ---- a constant x that is a / b
record Constant (x : Float) (a b : ℕ) : Type 0 where
  pub whole : InUnits x
  pub plus : pos_part x * b ≡ a * unit
  pub minus : neg_part x ≡ 0

constant : (x : Float) (a b : ℕ) → T (fits binary32 x) → HasValue x false a b → Constant x a b
constant nan a b f v = absurd v
constant (inf s) a b f v = absurd v
constant (fin true m e) a b f v = absurd (subst (λ (s : Bool). T s) v.0 tt)
constant (fin false m e) a b f v =
    let g : InUnits (fin false m e) = in-units (fin false m e) f tt in
    let size = m * up e * unit / down e in
    let plus = eq_of_mul-eq-mul_right (down e) (down_pos e) (size * b) (a * unit) (cross (m * up e) (down e) size g v.1) in
    record { whole = g; plus = plus; minus = refl }
  where
    cross : (x d p : ℕ) → x * unit ≡ p * d → x * b ≡ a * d → p * b * d ≡ a * unit * d
    cross x d p g v = omega (arith, ap (λ (z : ℕ). z * b) g, ap (λ (z : ℕ). z * unit) v)

-- the least and the greatest size of an input, and of a font size
least : Constant (of_bits binary32 0x35800000) 1 (2 ^ 20)
unfolding of_bits
least = constant (of_bits binary32 0x35800000) 1 (2 ^ 20) (of_bits-fits binary32 0x35800000) (refl, refl)

greatest : Constant (of_bits binary32 0x49800000) (2 ^ 20) 1
unfolding of_bits
greatest = constant (of_bits binary32 0x49800000) (2 ^ 20) 1 (of_bits-fits binary32 0x49800000) (refl, refl)

least_size : Constant (of_bits binary32 0x3d800000) 1 (2 ^ 4)
unfolding of_bits
least_size = constant (of_bits binary32 0x3d800000) 1 (2 ^ 4) (of_bits-fits binary32 0x3d800000) (refl, refl)

greatest-size : Constant (of_bits binary32 0x45800000) (2 ^ 12) 1
unfolding of_bits
greatest-size = constant (of_bits binary32 0x45800000) (2 ^ 12) 1 (of_bits-fits binary32 0x45800000) (refl, refl)

-- zero
zero-is-finite : T (finite (of_bits binary32 0))
unfolding of_bits
zero-is-finite = tt

pub zero-whole : InUnits (of_bits binary32 0)
zero-whole = in-units (of_bits binary32 0) (of_bits-fits binary32 0) zero-is-finite

pub zero-plus : pos_part (of_bits binary32 0) ≡ 0
unfolding of_bits
zero-plus = none unit
  where
    none : (u : ℕ) → 0 * u / 1 ≡ 0
    none u = omega arith

pub zero_minus : neg_part (of_bits binary32 0) ≡ 0
unfolding of_bits
zero_minus = refl

zero-size : size_of (of_bits binary32 0) ≡ 0
zero-size = rw (zero-plus, zero_minus) refl

-- ---- what a test says
between-finite : (a b x : Float) → InUnits a → InUnits b → T (le a x && le x b) → T (finite x)
unfolding le lt eq
between-finite nan b x ga gb h = absurd ga
between-finite (inf s) b x ga gb h = absurd ga
between-finite (fin s m e) nan x ga gb h = absurd gb
between-finite (fin s m e) (inf t) x ga gb h = absurd gb
between-finite (fin s m e) (fin t n d) nan ga gb h = h
between-finite (fin s m e) (fin t n d) (inf true) ga gb h = h
between-finite (fin s m e) (fin t n d) (inf false) ga gb h = h
between-finite (fin s m e) (fin t n d) (fin r k j) ga gb h = tt

zero-finite : (x : Float) → T (eq x (of_bits binary32 0)) → T (finite x)
unfolding eq of_bits
zero-finite nan h = h
zero-finite (inf s) h = h
zero-finite (fin s m e) h = tt

between-units : (a b x : Float) → InUnits a → InUnits b → InUnits x → T (le a x && le x b)
    → (pos_part a + neg_part x ≤ pos_part x + neg_part a) × (pos_part x + neg_part b ≤ pos_part b + neg_part x)
between-units a b x ga gb gx h = (
  leb→le (pos_part a + neg_part x) (pos_part x + neg_part a) (rw (le-units a x ga gx) at (and_l (le a x) (le x b) h)),
  leb→le (pos_part x + neg_part b) (pos_part b + neg_part x) (rw (le-units x b gx gb) at (and_r (le a x) (le x b) h)),
)

-- l and h, in units, are 1 / b and c; p and n are the parts of a float whose test says that p is the one that is not 0
sized : (b c l h p n : ℕ) → l * b ≡ 1 * unit → h * 1 ≡ c * unit → (p ≡ 0) ⊎ (n ≡ 0) → l + n ≤ p + 0 → p + 0 ≤ h + n
    → (n ≡ 0) × (unit ≤ b * p) × (p ≤ c * unit)
sized b c l h p n e f o u v = go o (mul-le-mul_right b low)
  where
    low : l ≤ p
    low = omega arith

    go : (p ≡ 0) ⊎ (n ≡ 0) → l * b ≤ p * b → (n ≡ 0) × (unit ≤ b * p) × (p ≤ c * unit)
    go (inl z) k = omega (arith, ap (λ (x : ℕ). x * b) z, unit-positive)
    go (inr z) k = omega arith

swap : {A B : Type 0} → A ⊎ B → B ⊎ A
swap (inl a) = inr a
swap (inr b) = inl b

module _ {lo hi : Float} {b c : ℕ} (least : Constant lo 1 b) (greatest : Constant hi c 1) (x : Float) (f : T (fits binary32 x)) where
  -- from lo to hi
  above_zero : T (le lo x && le x hi) → InUnits x × (neg_part x ≡ 0) × (unit ≤ b * pos_part x) × (pos_part x ≤ c * unit)
  above_zero h =
      let g = in-units x f (between-finite lo hi x least.whole greatest.whole h) in
      let u = between-units lo hi x least.whole greatest.whole g h in
      let r = sized b c (pos_part lo) (pos_part hi) (pos_part x) (neg_part x) least.plus greatest.plus (one-part x) (omega arith) (omega arith) in
      (g, r.0, r.1, r.2)

  -- from -hi to -lo
  below-zero : T (le (neg hi) x && le x (neg lo)) → InUnits x × (pos_part x ≡ 0) × (unit ≤ b * neg_part x) × (neg_part x ≤ c * unit)
  below-zero h =
      let l = negated lo least.whole in
      let k = negated hi greatest.whole in
      let g = in-units x f (between-finite (neg hi) (neg lo) x k.whole l.whole h) in
      let u = between-units (neg hi) (neg lo) x k.whole l.whole g h in
      let o = swap (one-part x) in
      let r = sized b c (pos_part lo) (pos_part hi) (neg_part x) (pos_part x) least.plus greatest.plus o (omega arith) (omega arith) in
      (g, r.0, r.1, r.2)

-- ---- an input: zero, or of a size from 2 ^ -20 to 2 ^ 20
pub record Input (x : Float) : Type 0 where
  pub whole : InUnits x
  pub low : (size_of x ≡ 0) ⊎ (unit ≤ 2 ^ 20 * size_of x)
  pub high : size_of x ≤ 2 ^ 20 * unit

pub input_of : (x : Float) → T (fits binary32 x)
    → T (eq x (of_bits binary32 0)
    || ((le (of_bits binary32 0x35800000) x && le x (of_bits binary32 0x49800000))
    || (le (neg (of_bits binary32 0x49800000)) x && le x (neg (of_bits binary32 0x35800000)))))
    → Input x
input_of x f h =
    elim (cases (eq x (of_bits binary32 0)) (positive || negative) h) [
      | inl z ↦ none z
      | inr k ↦ elim (cases positive negative k) [ inl p ↦ plus (above_zero least greatest x f p) | inr n ↦ minus (below-zero least greatest x f n) ]
    ]
  where
    positive : Bool
    positive = le (of_bits binary32 0x35800000) x && le x (of_bits binary32 0x49800000)

    negative : Bool
    negative = le (neg (of_bits binary32 0x49800000)) x && le x (neg (of_bits binary32 0x35800000))

    cases : (a b : Bool) → T (a || b) → T a ⊎ T b
    cases true b h = inl tt
    cases false b h = inr h

    plus : InUnits x × (neg_part x ≡ 0) × (unit ≤ 2 ^ 20 * pos_part x) × (pos_part x ≤ 2 ^ 20 * unit) → Input x
    plus r = record { whole = r.0; low = inr (omega arith); high = omega arith }

    minus : InUnits x × (pos_part x ≡ 0) × (unit ≤ 2 ^ 20 * neg_part x) × (neg_part x ≤ 2 ^ 20 * unit) → Input x
    minus r = record { whole = r.0; low = inr (omega arith); high = omega arith }

    none : T (eq x (of_bits binary32 0)) → Input x
    none z =
        let g = in-units x f (zero-finite x z) in
        let p = pos_part (of_bits binary32 0) in
        let n = neg_part (of_bits binary32 0) in
        let h = eqb→eq (pos_part x + n) (p + neg_part x) (rw (eq-units x (of_bits binary32 0) g zero-whole) at z) in
        let e : size_of x ≡ 0 = size (pos_part x) (neg_part x) p n zero-size (one-part x) h in
        record { whole = g; low = inl e; high = omega arith }
      where
        size : (p n a b : ℕ) → a + b ≡ 0 → (p ≡ 0) ⊎ (n ≡ 0) → p + b ≡ a + n → p + n ≡ 0
        size p n a b z (inl e) h = omega arith
        size p n a b z (inr e) h = omega arith

pub input-zero : Input (of_bits binary32 0)
input-zero = record { whole = zero-whole; low = inl zero-size; high = rw zero-size (least (2 ^ 20 * unit)) }
  where
    least : (z : ℕ) → 0 ≤ z
    least z = omega arith

-- ---- a font size: from 1 / 16 to 4,096
pub record FontSize (x : Float) : Type 0 where
  pub whole : InUnits x
  pub positive : neg_part x ≡ 0
  pub low : unit ≤ 2 ^ 4 * pos_part x
  pub high : pos_part x ≤ 2 ^ 12 * unit

pub font-size-of : (x : Float) → T (fits binary32 x) → T (le (of_bits binary32 0x3d800000) x && le x (of_bits binary32 0x45800000)) → FontSize x
font-size-of x f h =
    let r = above_zero least_size greatest-size x f h in
    record { whole = r.0; positive = r.1; low = r.2; high = r.3 }

-- four zero bytes are the pattern of one float
pub zero_bits : (x : Float) → T (fits binary32 x) → T (eqb (to_bits binary32 x) 0) → x ≡ of_bits binary32 0
zero_bits x f h = sym (of_bits-to_bits binary32 x f) ∙ ap (λ (b : ℕ). of_bits binary32 b) (eqb→eq (to_bits binary32 x) 0 h)
