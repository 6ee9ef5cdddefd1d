-- A fraction read over a common denominator: `Reads D f P N` says that f has a denominator above 0 and is (P - N) / D units. Assumes nothing.
-- Sums, differences, products and quotients by whole numbers, sizes and order, in terms of P and N; and a float's own fraction.
use mathlib.Core.Path.{◌≡◌, refl, sym, ap, ap₂, ◌∙◌}
use mathlib.Core.Logic.{◌⊎◌, inl, inr}
use mathlib.Core.Bool.{Bool, true, false, ◌&&◌, cond}
use Prim.Native.Nat.{ℕ, suc, ◌+◌, ◌*◌, ◌/◌, ◌<◌}
use native.Mathlib.Nat.{mul-pos, max-eq_right}
use native.Mathlib.Omega.{arith}
use lib.IntN.{ℤ, pos, negsuc, neg_ℤ, nat_abs, ◌+ℤ◌, ◌*ℤ◌}
use lib.Dec.{leb, ltb, lit<}
use lib.Ieee.{Float, nan, inf, fin, up, down, lt, le, eq}
use lib.Ieee.Fits.{down_pos}
use Rattle.float_error.specs.Fraction.{Frac, 0ᵠ, ◌+ᵠ◌, negᵠ, ◌-ᵠ◌, ◌·ᵠ◌, ◌/ᵠ◌, absᵠ, ltᵠ, leᵠ, value_of}
use Rattle.float_error.proofs.Units.{unit, unit-positive, pos_of, neg_of, pos_part, neg_part, InUnits}
use Rattle.float_error.proofs.IntegerParts.{pos_partℤ, neg_partℤ, neg-plus, neg-minus, plus-neg, minus-neg, plus-scale, minus-scale, mul-parts, add_parts, lt-parts, le_parts}
use Rattle.float_error.proofs.Tests.{ltb-same, leb-same, eqb-both, balance-lt, balance-ge}
use Rattle.float_error.proofs.Compare.{lt-units, le-units, eq-units}

pub record Reads (D : ℕ) (f : Frac) (P N : ℕ) : Type 0 where
  pub positive : 0 < f.den
  pub cross : pos_partℤ f.num * (D * unit) + N * f.den ≡ neg_partℤ f.num * (D * unit) + P * f.den

-- the same number as another difference
pub reads_as : {D : ℕ} {f : Frac} {P N : ℕ} (P' N' : ℕ) → P + N' ≡ P' + N → Reads D f P N → Reads D f P' N'
reads_as {D} {f} {P} {N} P' N' e r =
    record {
      positive = r.positive;
      cross = go (pos_partℤ f.num * (D * unit)) (neg_partℤ f.num * (D * unit)) f.den (ap (λ (x : ℕ). x * f.den) e) r.cross;
    }
  where
    go : (a b d : ℕ) → (P + N') * d ≡ (P' + N) * d → a + N * d ≡ b + P * d → a + N' * d ≡ b + P' * d
    go a b d e c = omega arith

-- over a multiple of the denominator
pub reads-scale : {D : ℕ} {f : Frac} {P N : ℕ} (c : ℕ) → Reads D f P N → Reads (D * c) f (P * c) (N * c)
reads-scale {D} {f} {P} {N} c r =
    record { positive = r.positive; cross = go (pos_partℤ f.num) (neg_partℤ f.num) f.den unit (ap (λ (x : ℕ). x * c) r.cross) }
  where
    go : (a b d u : ℕ) → (a * (D * u) + N * d) * c ≡ (b * (D * u) + P * d) * c → a * (D * c * u) + N * c * d ≡ b * (D * c * u) + P * c * d
    go a b d u e = omega arith

pub reads-zero : (D : ℕ) → Reads D 0ᵠ 0 0
reads-zero D = record { positive = lit< tt; cross = refl }

pub reads-neg : {D : ℕ} {f : Frac} {P N : ℕ} → Reads D f P N → Reads D (negᵠ f) N P
reads-neg {D} {f} r = record { positive = r.positive; cross = rw (plus-neg f.num, minus-neg f.num) (sym r.cross) }

pub reads-add : {D : ℕ} {f g : Frac} {P N P' N' : ℕ} → Reads D f P N → Reads D g P' N' → Reads D (f +ᵠ g) (P + P') (N + N')
reads-add {D} {f} {g} {P} {N} {P'} {N'} r s =
    let z = f.num *ℤ pos g.den in
    let w = g.num *ℤ pos f.den in
    record {
      positive = mul-pos r.positive s.positive;
      cross =
          go (D * unit) (pos_partℤ f.num) (neg_partℤ f.num) f.den (pos_partℤ g.num) (neg_partℤ g.num) g.den
          (pos_partℤ z) (neg_partℤ z) (pos_partℤ w) (neg_partℤ w) (pos_partℤ (z +ℤ w)) (neg_partℤ (z +ℤ w))
          (plus-scale f.num g.den) (minus-scale f.num g.den) (plus-scale g.num f.den) (minus-scale g.num f.den)
          (add_parts z w) r.cross s.cross;
    }
  where
    go : (u a b d a' b' d' zp zn wp wn sp sn : ℕ) → zp ≡ a * d' → zn ≡ b * d' → wp ≡ a' * d → wn ≡ b' * d → sp + (zn + wn) ≡ sn + (zp + wp)
        → a * u + N * d ≡ b * u + P * d → a' * u + N' * d' ≡ b' * u + P' * d' → sp * u + (N + N') * (d * d') ≡ sn * u + (P + P') * (d * d')
    go u a b d a' b' d' zp zn wp wn sp sn e1 e2 e3 e4 t r s =
        let t' : (sp + (b * d' + b' * d)) * u ≡ (sn + (a * d' + a' * d)) * u = ap (λ (x : ℕ). x * u) (rw (e1, e2, e3, e4) at t) in
        let r' : (a * u + N * d) * d' ≡ (b * u + P * d) * d' = ap (λ (x : ℕ). x * d') r in
        let s' : (a' * u + N' * d') * d ≡ (b' * u + P' * d') * d = ap (λ (x : ℕ). x * d) s in
        omega arith

pub reads-sub : {D : ℕ} {f g : Frac} {P N P' N' : ℕ} → Reads D f P N → Reads D g P' N' → Reads D (f -ᵠ g) (P + N') (N + P')
reads-sub r s = reads-add r (reads-neg s)

-- divided by a whole number c above 0: c * (P' - N') = P - N
pub reads-div : {D : ℕ} {f : Frac} {P N : ℕ} (c P' N' : ℕ) → 0 < c → P + c * N' ≡ c * P' + N → Reads D f P N → Reads D (f /ᵠ c) P' N'
reads-div {D} {f} {P} {N} c P' N' C e r =
    record {
      positive = (f /ᵠ c).above;
      cross = rw (max-eq_right C) (go (pos_partℤ f.num * (D * unit)) (neg_partℤ f.num * (D * unit)) f.den (ap (λ (x : ℕ). x * f.den) e) r.cross);
    }
  where
    go : (a b d : ℕ) → (P + c * N') * d ≡ (c * P' + N) * d → a + N * d ≡ b + P * d → a + N' * (d * c) ≡ b + P' * (d * c)
    go a b d e c = omega arith

-- times a whole number
pub reads-mul : {D : ℕ} {f : Frac} {P N : ℕ} (z : ℤ) → Reads D f P N
    → Reads D (z ·ᵠ f) (pos_partℤ z * P + neg_partℤ z * N) (pos_partℤ z * N + neg_partℤ z * P)
reads-mul {D} {f} {P} {N} z r =
    let m = mul-parts z f.num in
    record {
      positive = r.positive;
      cross =
          go (D * unit) (pos_partℤ z) (neg_partℤ z) (pos_partℤ f.num) (neg_partℤ f.num) (pos_partℤ (z *ℤ f.num)) (neg_partℤ (z *ℤ f.num)) f.den
          m.0 m.1 r.cross;
    }
  where
    go : (u k l a b p n d : ℕ) → p ≡ k * a + l * b → n ≡ k * b + l * a → a * u + N * d ≡ b * u + P * d
        → p * u + (k * N + l * P) * d ≡ n * u + (k * P + l * N) * d
    go u k l a b p n d e1 e2 r =
        let r1 : k * (a * u + N * d) ≡ k * (b * u + P * d) = ap (λ (x : ℕ). k * x) r in
        let r2 : l * (a * u + N * d) ≡ l * (b * u + P * d) = ap (λ (x : ℕ). l * x) r in
        rw (e1, e2) (omega arith)

-- ---- the size of a fraction, where one of the two parts is 0
pub reads-abs : {D : ℕ} {f : Frac} {P N : ℕ} → (P ≡ 0) ⊎ (N ≡ 0) → Reads D f P N → Reads D (absᵠ f) (P + N) 0
reads-abs {D} {f} {P} {N} o r = record { positive = r.positive; cross = go f.num f.den o r.cross }
  where
    plus : (a d u : ℕ) → a * u + N * d ≡ 0 * u + P * d → (P ≡ 0) ⊎ (N ≡ 0) → a * u + 0 * d ≡ 0 * u + (P + N) * d
    plus a d u e (inl z) = omega (arith, ap (λ (x : ℕ). x * d) z)
    plus a d u e (inr z) = omega (arith, ap (λ (x : ℕ). x * d) z)

    minus : (a d u : ℕ) → 0 * u + N * d ≡ a * u + P * d → (P ≡ 0) ⊎ (N ≡ 0) → a * u + 0 * d ≡ 0 * u + (P + N) * d
    minus a d u e (inl z) = omega (arith, ap (λ (x : ℕ). x * d) z)
    minus a d u e (inr z) = omega (arith, ap (λ (x : ℕ). x * d) z)

    go : (z : ℤ) (d : ℕ) → (P ≡ 0) ⊎ (N ≡ 0) → pos_partℤ z * (D * unit) + N * d ≡ neg_partℤ z * (D * unit) + P * d
        → nat_abs z * (D * unit) + 0 * d ≡ 0 * (D * unit) + (P + N) * d
    go (pos n) d o c = plus n d (D * unit) c o
    go (negsuc n) d o c = minus (suc n) d (D * unit) c o

-- ---- order: f and g stand to each other as P - N and P' - N' do
module _ {D : ℕ} {f g : Frac} {P N P' N' : ℕ} (D⁺ : 0 < D) (r : Reads D f P N) (s : Reads D g P' N') where
  less : ℕ
  less = pos_partℤ (f.num *ℤ pos g.den) + neg_partℤ (g.num *ℤ pos f.den)

  more : ℕ
  more = pos_partℤ (g.num *ℤ pos f.den) + neg_partℤ (f.num *ℤ pos g.den)

  balanced : less * (D * unit) + (P' + N) * (f.den * g.den) ≡ more * (D * unit) + (P + N') * (f.den * g.den)
  unfolding less more
  balanced =
      rw (plus-scale f.num g.den, minus-scale f.num g.den, plus-scale g.num f.den, minus-scale g.num f.den)
      (go (D * unit) (pos_partℤ f.num) (neg_partℤ f.num) f.den (pos_partℤ g.num) (neg_partℤ g.num) g.den r.cross s.cross)
    where
      go : (u a b d a' b' d' : ℕ) → a * u + N * d ≡ b * u + P * d → a' * u + N' * d' ≡ b' * u + P' * d'
          → (a * d' + b' * d) * u + (P' + N) * (d * d') ≡ (a' * d + b * d') * u + (P + N') * (d * d')
      go u a b d a' b' d' r s =
          let r' : (a * u + N * d) * d' ≡ (b * u + P * d) * d' = ap (λ (x : ℕ). x * d') r in
          let s' : (a' * u + N' * d') * d ≡ (b' * u + P' * d') * d = ap (λ (x : ℕ). x * d) s in
          omega arith

  units : 0 < D * unit
  units = mul-pos D⁺ unit-positive

  dens : 0 < f.den * g.den
  dens = mul-pos r.positive s.positive

  pub reads-lt : ltᵠ f g ≡ ltb (P + N') (P' + N)
  unfolding less more
  reads-lt =
      lt-parts (f.num *ℤ pos g.den) (g.num *ℤ pos f.den)
      ∙ ltb-same less more (P + N') (P' + N)
      (balance-lt less more (P + N') (P' + N) (D * unit) (f.den * g.den) units dens balanced)
      (balance-ge less more (P + N') (P' + N) (D * unit) (f.den * g.den) units dens balanced)

  pub reads-le : leᵠ f g ≡ leb (P + N') (P' + N)
  unfolding less more
  reads-le =
      le_parts (f.num *ℤ pos g.den) (g.num *ℤ pos f.den)
      ∙ leb-same less more (P + N') (P' + N)
      (balance-ge more less (P' + N) (P + N') (D * unit) (f.den * g.den) units dens (sym balanced))
      (balance-lt more less (P' + N) (P + N') (D * unit) (f.den * g.den) units dens (sym balanced))

-- ---- a float's own fraction
signed_parts : (s : Bool) (n : ℕ) → (pos_partℤ (cond s (neg_ℤ (pos n)) (pos n)) ≡ pos_of s n) × (neg_partℤ (cond s (neg_ℤ (pos n)) (pos n)) ≡ neg_of s n)
signed_parts true n = (neg-plus n, neg-minus n)
signed_parts false n = (refl, refl)

pub reads-value : (D : ℕ) (x : Float) → InUnits x → Reads D (value_of x) (pos_part x * D) (neg_part x * D)
unfolding value_of
reads-value D nan g = absurd g
reads-value D (inf s) g = absurd g
reads-value D (fin s m e) g =
    let z = cond s (neg_ℤ (pos (m * up e))) (pos (m * up e)) in
    let c = go s (m * up e) (down e) (m * up e * unit / down e) (pos_partℤ z) (neg_partℤ z) g (signed_parts s (m * up e)) in
    record { positive = down_pos e; cross = c }
  where
    go : (s : Bool) (x d a p n : ℕ) → x * unit ≡ a * d → (p ≡ pos_of s x) × (n ≡ neg_of s x)
        → p * (D * unit) + neg_of s a * D * d ≡ n * (D * unit) + pos_of s a * D * d
    go true x d a p n e h = rw (h.0, h.1) (omega (arith, ap (λ (z : ℕ). z * D) e))
    go false x d a p n e h = rw (h.0, h.1) (omega (arith, ap (λ (z : ℕ). z * D) e))

-- ---- finite floats compare as their fractions do
own : (z : Float) → InUnits z → Reads 1 (value_of z) (pos_part z) (neg_part z)
own z g = rw (times-one (pos_part z), times-one (neg_part z)) at (reads-value 1 z g)
  where
    times-one : (x : ℕ) → x * 1 ≡ x
    times-one x = omega arith

module _ (x y : Float) (gx : InUnits x) (gy : InUnits y) where
  pub lt-value : lt x y ≡ ltᵠ (value_of x) (value_of y)
  lt-value = lt-units x y gx gy ∙ sym (reads-lt (lit< tt) (own x gx) (own y gy))

  pub le-value : le x y ≡ leᵠ (value_of x) (value_of y)
  le-value = le-units x y gx gy ∙ sym (reads-le (lit< tt) (own x gx) (own y gy))

  pub eq-value : eq x y ≡ (leᵠ (value_of x) (value_of y) && leᵠ (value_of y) (value_of x))
  eq-value =
      eq-units x y gx gy ∙ eqb-both (pos_part x + neg_part y) (pos_part y + neg_part x)
      ∙ sym (ap₂ ◌&&◌ (reads-le (lit< tt) (own x gx) (own y gy)) (reads-le (lit< tt) (own y gy) (own x gx)))
