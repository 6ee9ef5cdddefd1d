-- What a layout begins with, as `Track` has it: zero, an input, and a glyph's advance, its width times (size / units per em). Assumes nothing.
-- The mass of each is the size of its fraction (`-size`), so that a bound by masses is a bound by the sum of the sizes. It is far below S (`-small`),
-- and it absorbs half a unit, or is 0 (`-absorbs`).
use mathlib.Core.Path.{◌≡◌, sym, ap, ◌∙◌}
use mathlib.Core.Logic.{◌⊎◌, inl, inr}
use Prim.Native.Nat.{ℕ, zero, suc, ◌+◌, ◌*◌, ◌^◌, ◌≤◌, ◌<◌}
use native.Mathlib.Nat.{le_refl, le_trans, le_of_eq, mul_assoc, mul_left_comm, mul-le-mul_right, mul-le-mul_left}
use native.Mathlib.Omega.{arith}
use lib.IntN.{ℤ, pos, negsuc, nat_abs}
use lib.Ieee.{Float, binary32, mul, div, of_int, of_bits}
use Rattle.float_error.specs.Fraction.{0ᵠ, ◌·ᵠ◌, ◌/ᵠ◌, absᵠ, value_of}
use Rattle.float_error.proofs.Units.{unit, unit-large, pos_part, neg_part, size_of, one-part}
use Rattle.float_error.proofs.IntegerParts.{pos_partℤ, neg_partℤ}
use Rattle.float_error.proofs.CommonDenominator.{Reads, reads_as, reads-zero, reads-mul, reads-div, reads-abs, reads-value}
use Rattle.float_error.proofs.Approx.{Scale, Absorbs, Absorbs.empty, Absorbs.covered, approx-exact, approx-as}
use Rattle.float_error.proofs.Track.{Track, track-weaken, track-exact, track-mul}
use Rattle.float_error.proofs.Quotients.{track-count}
use Rattle.float_error.proofs.Inputs.{Input, FontSize, zero-whole, zero-plus, zero_minus}

-- ---- zero, at any level
pub track-zero : {D S : ℕ} → Scale D S → (F m E : ℕ) → Track D S F (of_bits binary32 0) 0ᵠ m E
track-zero {D} sc F m E =
    record {
      p = 0;
      n = 0;
      approx = approx-as (0 * F) (0 * F) E (rw (zero-plus, zero_minus) (gone D F)) (least E) (approx-exact sc (of_bits binary32 0) zero-whole);
      reads = reads_as (0 * F) (0 * F) (none F) (reads-zero D);
      mass = mass F;
    }
  where
    gone : (D F : ℕ) → 0 * D + 0 * F ≡ 0 * F + 0 * D
    gone D F = omega arith

    none : (F : ℕ) → 0 + 0 * F ≡ 0 * F + 0
    none F = omega arith

    least : (E : ℕ) → 0 ≤ E
    least E = omega arith

    mass : (F : ℕ) → (0 + 0) * F ≤ m
    mass F = omega arith

-- ---- an input, at any level F that divides D
pub track-input : {D S : ℕ} → Scale D S → (F f : ℕ) (x : Float) → D ≡ f * F → Input x → Track D S F x (value_of x) (size_of x * D) 0
track-input sc F f x e i = track-exact sc F f x e i.whole

nothing : (D s : ℕ) → s ≡ 0 → s * D ≡ 0
nothing D s e = omega (arith, ap (λ (z : ℕ). z * D) e)

pub input-size : {x : Float} (D : ℕ) → Input x → Reads D (absᵠ (value_of x)) (size_of x * D) 0
input-size {x} D i = reads_as (size_of x * D) 0 (sum (pos_part x) (neg_part x)) (reads-abs (part (one-part x)) (reads-value D x i.whole))
  where
    sum : (p n : ℕ) → p * D + n * D + 0 ≡ (p + n) * D + 0
    sum p n = omega arith

    part : (pos_part x ≡ 0) ⊎ (neg_part x ≡ 0) → (pos_part x * D ≡ 0) ⊎ (neg_part x * D ≡ 0)
    part (inl e) = inl (nothing D (pos_part x) e)
    part (inr e) = inr (nothing D (neg_part x) e)

pub input-small : {x : Float} (D : ℕ) → Input x → size_of x * D ≤ 2 ^ 20 * (unit * D)
input-small D i = le_trans (mul-le-mul_right D i.high) (le_of_eq (mul_assoc (2 ^ 20) unit D))

pub input-absorbs : {x : Float} (D : ℕ) → Input x → Absorbs D (size_of x * D) (size_of x * D)
input-absorbs {x} D i = elim i.low [ inl e ↦ empty (nothing D (size_of x) e) | inr h ↦ covered (mul-le-mul_right D (some (size_of x) h)) ]
  where
    some : (s : ℕ) → unit ≤ 2 ^ 20 * s → 2 ^ 26 ≤ s
    some s h = omega (arith, unit-large)

-- ---- A glyph's advance. Its width is w, the font size is s, there are c units per em, and k is what D has beyond c and F.
-- its mass
abbrev pub advance_mass : ℤ → Float → ℕ → ℕ
advance_mass w s g = nat_abs w * (pos_part s * g)

module _ {D : ℕ} (F k : ℕ) (w : ℤ) (s : Float) (c : ℕ) (e : D ≡ c * (k * F)) (ws : nat_abs w ≤ 65535) (C : 0 < c) (cs : c ≤ 65535) (i : FontSize s) where
  -- size / units per em, in D-ths of a unit
  em : ℕ
  em = pos_part s * (k * F)

  em-mass : size_of s * D ≡ c * em
  unfolding em
  em-mass = go (pos_part s) (neg_part s) i.positive
    where
      go : (p n : ℕ) → n ≡ 0 → (p + n) * D ≡ c * (p * (k * F))
      go p n h = rw (h, e) (omega arith)

  em-covered : 2 ^ 26 * D ≤ em
  unfolding em
  em-covered = go (pos_part s) i.low
    where
      go : (p : ℕ) → unit ≤ 2 ^ 4 * p → 2 ^ 26 * D ≤ p * (k * F)
      go p h =
          let j : 2 ^ 26 * c ≤ p = omega (arith, unit-large) in
          rw e (omega (arith, mul-le-mul_right (k * F) j))

  size_small : size_of s * D ≤ 2 ^ 12 * (unit * D)
  size_small = le_trans (mul-le-mul_right D size) (le_of_eq (mul_assoc (2 ^ 12) unit D))
    where
      size : size_of s ≤ 2 ^ 12 * unit
      size = omega (arith, i.positive, i.high)

  pub glyph-small : advance_mass w s (k * F) ≤ 2 ^ 28 * (unit * D)
  unfolding em
  glyph-small = go (nat_abs w) em ws (le_trans (le_of_eq (sym em-mass)) size_small)
    where
      go : (W z : ℕ) → W ≤ 65535 → c * z ≤ 2 ^ 12 * (unit * D) → W * z ≤ 2 ^ 28 * (unit * D)
      go W z h k = omega (arith, mul-le-mul_right z C, mul-le-mul_right z h)

  -- 9 parts for the quotient, 1 for its half unit, 9 for the product
  pub track-glyph : {S : ℕ} → Scale D S
      → Track D S F (mul binary32 (of_int binary32 w) (div binary32 s (of_int binary32 (pos c)))) (w ·ᵠ (value_of s /ᵠ c))
      (advance_mass w s (k * F)) (19 * advance_mass w s (k * F))
  unfolding em
  track-glyph {S} sc =
      let W = nat_abs w in
      let size = track-exact sc (c * F) k s (e ∙ mul_left_comm c k F) i.whole in
      let quotient =
      track-count F c (2 ^ 26 * D) em (9 * em + 2 ^ 26 * D) C (short c cs) size (least (2 ^ 24 * (size_of s * D))) (room (size_of s * D) size_small)
      (covered (le_refl (2 ^ 26 * D))) (mass (size_of s * D) em em-mass) (error (size_of s * D) em em-mass) in
      let total = cost W em em-covered in
      let product = track-mul w (W * em) (short W ws) quotient (le_refl (W * em)) total.0 (fits (W * em) glyph-small) in
      track-weaken (W * em) (19 * (W * em)) (le_refl (W * em)) total.1 product
    where
      short : (a : ℕ) → a ≤ 65535 → a < 2 ^ 24
      short a h = omega arith

      least : (z : ℕ) → 0 ≤ z
      least z = omega arith

      room : (z : ℕ) → z ≤ 2 ^ 12 * (unit * D) → z ≤ S
      room z h = omega (arith, sc.large)

      fits : (z : ℕ) → z ≤ 2 ^ 28 * (unit * D) → z ≤ S
      fits z h = omega (arith, sc.large)

      mass : (m z : ℕ) → m ≡ c * z → m < c * z + c
      mass m z h = omega arith

      error : (m z : ℕ) → m ≡ c * z → 0 + 9 * m + c * (2 ^ 26 * D) ≤ c * (9 * z + 2 ^ 26 * D)
      error m z h = omega arith

      cost : (W z : ℕ) → 2 ^ 26 * D ≤ z → (W * (9 * z + 2 ^ 26 * D) ≤ 2 ^ 24 * (W * z)) × (W * (9 * z + 2 ^ 26 * D) + 9 * (W * z) ≤ 19 * (W * z))
      cost W z h = omega (arith, mul-le-mul_left W h)

  pub glyph-size : Reads D (absᵠ (w ·ᵠ (value_of s /ᵠ c))) (advance_mass w s (k * F)) 0
  unfolding em
  glyph-size =
      let quotient = reads-div c em 0 C (cross (pos_part s) (neg_part s) i.positive em-mass) (reads-value D s i.whole) in
      reads_as (nat_abs w * em) 0 (sum w) (reads-abs (part w) (reads-mul w quotient))
    where
      cross : (p n : ℕ) → n ≡ 0 → (p + n) * D ≡ c * em → p * D + c * 0 ≡ c * em + n * D
      cross p n h k = omega (arith, ap (λ (z : ℕ). z * D) h)

      sum : (w : ℤ) → pos_partℤ w * em + neg_partℤ w * 0 + (pos_partℤ w * 0 + neg_partℤ w * em) + 0 ≡ nat_abs w * em + 0
      sum (pos n) = omega arith
      sum (negsuc n) = omega arith

      part : (w : ℤ) → (pos_partℤ w * em + neg_partℤ w * 0 ≡ 0) ⊎ (pos_partℤ w * 0 + neg_partℤ w * em ≡ 0)
      part (pos n) = inr (omega arith)
      part (negsuc n) = inl (omega arith)

  pub glyph-absorbs : Absorbs D (advance_mass w s (k * F)) (advance_mass w s (k * F))
  unfolding em
  glyph-absorbs = go (nat_abs w) em em-covered
    where
      go : (W z : ℕ) → 2 ^ 26 * D ≤ z → Absorbs D (W * z) (W * z)
      go zero z h = empty (omega arith)
      go (suc W) z h = covered (omega arith)
