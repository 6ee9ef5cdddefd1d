-- Comparisons of finite floats: `lt`, `le` and `eq` compare their numbers of units. Assumes nothing.
use mathlib.Core.Path.{◌≡◌, sym, ap, ◌∙◌}
use mathlib.Core.Logic.{inl, inr}
use mathlib.Core.Bool.{Bool, true, false, ◌||◌, beq}
use Prim.Native.Nat.{ℕ, ◌+◌, ◌*◌, ◌/◌, ◌≤◌, ◌<◌}
use native.Mathlib.Nat.{le_of_eq, le_of_lt, mul-pos, eq-or-lt_of_le, eq_of_mul-eq-mul_right}
use native.Mathlib.Omega.{arith}
use lib.Dec.{T, leb, ltb, eqb, leb→le, le→leb, ltb→lt, lt→ltb, eqb→eq}
use lib.Ieee.{Float, nan, inf, fin, up, down, lt, le, eq, below, level}
use lib.Ieee.Fits.{down_pos, and_i, and_l, and_r, eq→eqb}
use Rattle.float_error.proofs.Units.{unit, unit-positive, pos_of, neg_of, pos_part, neg_part, InUnits, common}
use Rattle.float_error.proofs.Tests.{same_test, ltb-same, balance-lt, balance-ge}

-- ---- a / c and b / c are A and B units
crossed : (a b c A B : ℕ) → a * unit ≡ A * c → b * unit ≡ B * c → a * unit + B * c ≡ b * unit + A * c
crossed a b c A B p q = omega arith

module _ (a b c A B : ℕ) (C : 0 < c) (p : a * unit ≡ A * c) (q : b * unit ≡ B * c) where
  up_lt : a < b → A < B
  up_lt h = balance-lt a b A B unit c unit-positive C (crossed a b c A B p q) h

  up-ge : b ≤ a → B ≤ A
  up-ge h = balance-ge a b A B unit c unit-positive C (crossed a b c A B p q) h

  up-eq : a ≡ b → A ≡ B
  up-eq e = eq_of_mul-eq-mul_right c C A B (sym p ∙ ap (λ (z : ℕ). z * unit) e ∙ q)

  down-eq : A ≡ B → a ≡ b
  down-eq e = eq_of_mul-eq-mul_right unit unit-positive a b (p ∙ ap (λ (z : ℕ). z * c) e ∙ sym q)

none : (c : ℕ) → 0 * unit ≡ 0 * c
none c = omega arith

module _ (a b c A B : ℕ) (C : 0 < c) (p : a * unit ≡ A * c) (q : b * unit ≡ B * c) where
  both : (a + b) * unit ≡ (A + B) * c
  both = omega arith

  below-units : (s t : Bool) → below s a t b ≡ ltb (pos_of s A + neg_of t B) (pos_of t B + neg_of s A)
  below-units true true =
      ltb-same b a (0 + B) (0 + A) (λ h. less (up_lt b a c B A C q p h)) (λ h. more (up-ge b a c B A C q p h))
    where
      less : B < A → 0 + B < 0 + A
      less h = omega arith

      more : A ≤ B → 0 + A ≤ 0 + B
      more h = omega arith
  below-units true false =
      ltb-same 0 (a + b) (0 + 0) (B + A)
      (λ h. less (up_lt 0 (a + b) c 0 (A + B) C (none c) both h)) (λ h. more (up-ge 0 (a + b) c 0 (A + B) C (none c) both h))
    where
      less : 0 < A + B → 0 + 0 < B + A
      less h = omega arith

      more : A + B ≤ 0 → B + A ≤ 0 + 0
      more h = omega arith
  below-units false true = same_test false (ltb (A + B) (0 + 0)) (λ t. absurd t) (λ t. bad (ltb→lt (A + B) (0 + 0) t))
    where
      bad : A + B < 0 + 0 → ⊥
      bad h = omega arith
  below-units false false =
      ltb-same a b (A + 0) (B + 0) (λ h. less (up_lt a b c A B C p q h)) (λ h. more (up-ge a b c A B C p q h))
    where
      less : A < B → A + 0 < B + 0
      less h = omega arith

      more : B ≤ A → B + 0 ≤ A + 0
      more h = omega arith

  -- a zero equals a zero of the other sign
  level-units : (s t : Bool) → level s a t b ≡ eqb (pos_of s A + neg_of t B) (pos_of t B + neg_of s A)
  level-units s t =
      same_test (level s a t b) (eqb (pos_of s A + neg_of t B) (pos_of t B + neg_of s A))
      (λ h. eq→eqb (to s t (up-eq a b c A B C p q (eqb→eq a b (and_l (eqb a b) signs h))) (and_r (eqb a b) signs h)))
      (λ h. from s t (eqb→eq (pos_of s A + neg_of t B) (pos_of t B + neg_of s A) h))
    where
      signs : Bool
      signs = beq s t || eqb a 0

      no-units : T (eqb a 0) → A ≡ 0
      no-units z = up-eq a 0 c A 0 C p (none c) (eqb→eq a 0 z)

      zero-size : A ≡ 0 → T (eqb a 0)
      zero-size e = eq→eqb (down-eq a 0 c A 0 C p (none c) e)

      same_size : A ≡ B → T (eqb a b)
      same_size e = eq→eqb (down-eq a b c A B C p q e)

      to : (s t : Bool) → A ≡ B → T (beq s t || eqb a 0) → pos_of s A + neg_of t B ≡ pos_of t B + neg_of s A
      to true true e z = omega arith
      to true false e z = omega (arith, no-units z)
      to false true e z = omega (arith, no-units z)
      to false false e z = omega arith

      from : (s t : Bool) → pos_of s A + neg_of t B ≡ pos_of t B + neg_of s A → T (level s a t b)
      from true true e = and_i (eqb a b) true (same_size (omega arith)) tt
      from true false e = and_i (eqb a b) (eqb a 0) (same_size (omega arith)) (zero-size (omega arith))
      from false true e = and_i (eqb a b) (eqb a 0) (same_size (omega arith)) (zero-size (omega arith))
      from false false e = and_i (eqb a b) true (same_size (omega arith)) tt

-- ---- floats
both-units : (x y : Float) → InUnits x → InUnits y
    → (lt x y ≡ ltb (pos_part x + neg_part y) (pos_part y + neg_part x)) × (eq x y ≡ eqb (pos_part x + neg_part y) (pos_part y + neg_part x))
unfolding lt eq
both-units nan y gx gy = absurd gx
both-units (inf s) y gx gy = absurd gx
both-units (fin s m e) nan gx gy = absurd gy
both-units (fin s m e) (inf t) gx gy = absurd gy
both-units (fin s m e) (fin t n d) gx gy =
    let A = m * up e * unit / down e in
    let B = n * up d * unit / down d in
    let c = common (m * up e) (down e) A (n * up d) (down d) B gx gy in
    let den = mul-pos (down_pos e) (down_pos d) in (
      below-units (m * up e * down d) (n * up d * down e) (down e * down d) A B den c.0 c.1 s t,
      level-units (m * up e * down d) (n * up d * down e) (down e * down d) A B den c.0 c.1 s t,
    )

pub lt-units : (x y : Float) → InUnits x → InUnits y → lt x y ≡ ltb (pos_part x + neg_part y) (pos_part y + neg_part x)
lt-units x y gx gy = (both-units x y gx gy).0

pub eq-units : (x y : Float) → InUnits x → InUnits y → eq x y ≡ eqb (pos_part x + neg_part y) (pos_part y + neg_part x)
eq-units x y gx gy = (both-units x y gx gy).1

pub le-units : (x y : Float) → InUnits x → InUnits y → le x y ≡ leb (pos_part x + neg_part y) (pos_part y + neg_part x)
unfolding le
le-units x y gx gy = rw (lt-units x y gx gy, eq-units x y gx gy) (less-or-equal (pos_part x + neg_part y) (pos_part y + neg_part x))
  where
    or_l : (a b : Bool) → T a → T (a || b)
    or_l true b h = tt
    or_l false b h = absurd h

    or_r : (a b : Bool) → T b → T (a || b)
    or_r true b h = tt
    or_r false b h = h

    less-or-equal : (u v : ℕ) → (ltb u v || eqb u v) ≡ leb u v
    less-or-equal u v =
        same_test (ltb u v || eqb u v) (leb u v)
        (λ h. le→leb u v (to (ltb u v) (eqb u v) (λ t. le_of_lt (ltb→lt u v t)) (λ t. le_of_eq (eqb→eq u v t)) h))
        (λ h. elim (eq-or-lt_of_le (leb→le u v h)) [ inl e ↦ or_r (ltb u v) (eqb u v) (eq→eqb e) | inr l ↦ or_l (ltb u v) (eqb u v) (lt→ltb u v l) ])
      where
        to : (a b : Bool) → (T a → u ≤ v) → (T b → u ≤ v) → T (a || b) → u ≤ v
        to true b f g h = f tt
        to false b f g h = g h
