-- How far a float is from an exact number, and how that grows over the operations. Assumes nothing.
-- An exact number is (P - N) / D units, for one D that all of them share; P + N is its mass, which bounds its size.
-- `Approx D S x P N E` says that x is finite and that |x - (P - N) / D| ≤ E / (2 ^ 27 * D) units.
-- An operation whose exact result has a mass of at most m costs 9 * m: 8 for a part in 2 ^ 24 of the result, and 1 for a part in 2 ^ 24 of the
-- errors made before, which are to be at most 2 ^ 24 * m.
use mathlib.Core.Path.{◌≡◌, refl, sym, ap, ◌∙◌}
use mathlib.Core.Bool.{Bool, true, false}
use Prim.Native.Nat.{ℕ, ◌+◌, ◌-◌, ◌*◌, ◌/◌, ◌^◌, ◌≤◌, ◌<◌}
use native.Mathlib.Nat.{le_trans, le_of_eq, mul_comm, mul_assoc, mul-sub, mul-le-mul_right, mul-le-mul_left, le_of_mul-le-mul_right, lt_of_mul-lt-mul_right, le-div_iff_mul-le, div-mul-le_self}
use native.Mathlib.Omega.{arith}
use lib.Ieee.{Float, binary32, add, mul, div, neg}
use lib.Ieee.Exact.{HasValue}
use Rattle.float_error.proofs.Nearest.{Within}
use Rattle.float_error.proofs.Units.{unit, limit, limit-positive, reach, reach-units, reach-room, Apart, pos_of, neg_of, pos_part, neg_part, InUnits}
use Rattle.float_error.proofs.RoundedTo.{RoundedTo, rounded-as}
use Rattle.float_error.proofs.Addition.{Negated, negated, add-near}
use Rattle.float_error.proofs.Multiplication.{mul-near}
use Rattle.float_error.proofs.Division.{div-near}

-- masses up to S / D units leave room below the largest floats, and S / D units is 2 ^ 50 or more
pub record Scale (D S : ℕ) : Type 0 where
  pub positive : 0 < D
  pub room : 8 * S < limit * D
  pub large : 2 ^ 50 * (unit * D) ≤ S

pub scale_at : (D : ℕ) → 0 < D → Scale D (reach * D)
scale_at D h =
    record {
      positive = h;
      room = reach-room D h;
      large = le_trans (le_of_eq (sym (mul_assoc (2 ^ 50) unit D))) (mul-le-mul_right D reach-units);
    }

pub record Approx (D S : ℕ) (x : Float) (P N E : ℕ) : Type 0 where
  pub scale : Scale D S
  pub whole : InUnits x
  pub near : Apart (2 ^ 27) D (pos_part x) (neg_part x) P N E

-- ---- One rounding. On the floats the operation's exact result is (p - n) / u units, and that is near (P - N) / (u * D) units; z is that result
-- rounded, and h is what rounding may lose besides a part in 2 ^ 24.
div-within : (a b d s : ℕ) → 0 < d → a * d ≤ b * d + s → a ≤ b + s / d
div-within a b d s p h = more (s / d) ((le-div_iff_mul-le p).1 (le_trans (le_of_eq difference) (less (a * d) (b * d) h)))
  where
    difference : (a - b) * d ≡ a * d - b * d
    difference =
        mul_comm (a - b) d ∙ mul-sub d a b ∙ ap (λ (z : ℕ). z - d * b) (mul_comm d a) ∙ ap (λ (z : ℕ). a * d - z) (mul_comm d b)

    less : (x y : ℕ) → x ≤ y + s → x - y ≤ s
    less x y h = omega arith

    more : (q : ℕ) → a - b ≤ q → a ≤ b + q
    more q h = omega arith

module _ {D S : ℕ} (sc : Scale D S) where
  step : {z : Float} (u p n h P N E m : ℕ) → ((M : ℕ) → Within p n M → M < limit → RoundedTo z u p n (M + h)) → Apart (2 ^ 27) D p n P N E
      → P + N ≤ m → E ≤ 2 ^ 24 * m → m ≤ S
      → InUnits z × Apart (2 ^ 27) D (pos_part z * u) (neg_part z * u) P N (E + 9 * m + 8 * (h * D))
  step {z} u p n h P N E m f a c d l =
      go (9 * m / (8 * D)) (div-mul-le_self (9 * m) (8 * D))
      (div-within p n (8 * D) (9 * m) (eight sc.positive) before.0) (div-within n p (8 * D) (9 * m) (eight sc.positive) before.1)
    where
      eight : 0 < D → 0 < 8 * D
      eight h = omega arith

      before : Within (p * (8 * D)) (n * (8 * D)) (9 * m)
      before = omega arith

      go : (M : ℕ) → M * (8 * D) ≤ 9 * m → p ≤ n + M → n ≤ p + M
          → InUnits z × Apart (2 ^ 27) D (pos_part z * u) (neg_part z * u) P N (E + 9 * m + 8 * (h * D))
      go M k v w =
          let r = f M (v, w) (lt_of_mul-lt-mul_right D (bounded (limit * D) sc.room)) in
          (r.whole, after (pos_part z) (neg_part z) r.near)
        where
          bounded : (t : ℕ) → 8 * S < t → M * D < t
          bounded t s = omega arith

          after : (zp zn : ℕ) → Apart (2 ^ 24) u zp zn p n (M + h) → Apart (2 ^ 27) D (zp * u) (zn * u) P N (E + 9 * m + 8 * (h * D))
          after zp zn b =
              let i = mul-le-mul_right D b.0 in
              let j = mul-le-mul_right D b.1 in
              omega arith

  -- where the exact result is a whole number of units
  step-whole : {z : Float} (p n P N E m : ℕ) → ((M : ℕ) → Within p n M → M < limit → RoundedTo z 1 p n M) → Apart (2 ^ 27) D p n P N E
      → P + N ≤ m → E ≤ 2 ^ 24 * m → m ≤ S → Approx D S z P N (E + 9 * m)
  step-whole {z} p n P N E m f a c d l =
      let r = step {z = z} 1 p n 0 P N E m (λ M w h. rounded-as p n (M + 0) refl (more M) (f M w h)) a c d l in
      record { scale = sc; whole = r.0; near = last (pos_part z) (neg_part z) r.1 }
    where
      more : (M : ℕ) → M ≤ M + 0
      more M = omega arith

      last : (zp zn : ℕ) → Apart (2 ^ 27) D (zp * 1) (zn * 1) P N (E + 9 * m + 8 * (0 * D)) → Apart (2 ^ 27) D zp zn P N (E + 9 * m)
      last zp zn b = omega arith

-- ---- a float as it stands
pub approx-exact : {D S : ℕ} → Scale D S → (x : Float) → InUnits x → Approx D S x (pos_part x * D) (neg_part x * D) 0
approx-exact {D} sc x g = record { scale = sc; whole = g; near = same (pos_part x) (neg_part x) }
  where
    same : (p n : ℕ) → Apart (2 ^ 27) D p n (p * D) (n * D) 0
    same p n = omega arith

-- the same number as another difference, and a larger error
pub approx-as : {D S : ℕ} {x : Float} {P N E : ℕ} (P' N' E' : ℕ) → P + N' ≡ P' + N → E ≤ E' → Approx D S x P N E → Approx D S x P' N' E'
approx-as {D} {x = x} {P} {N} {E} P' N' E' e h a =
    record { scale = a.scale; whole = a.whole; near = go (pos_part x) (neg_part x) a.near }
  where
    go : (p n : ℕ) → Apart (2 ^ 27) D p n P N E → Apart (2 ^ 27) D p n P' N' E'
    go p n c = omega arith

-- ---- the operations
pub approx-add : {D S : ℕ} {x y : Float} {P N E P' N' E' : ℕ} (m : ℕ) → Approx D S x P N E → Approx D S y P' N' E'
    → P + P' + (N + N') ≤ m → E + E' ≤ 2 ^ 24 * m → m ≤ S → Approx D S (add binary32 x y) (P + P') (N + N') (E + E' + 9 * m)
approx-add {D} {S} {x} {y} {P} {N} {E} {P'} {N'} {E'} m a b c d l =
    step-whole a.scale (pos_part x + pos_part y) (neg_part x + neg_part y) (P + P') (N + N') (E + E') m
    (λ M w h. add-near x y M a.whole b.whole w h) (sum (pos_part x) (neg_part x) (pos_part y) (neg_part y) a.near b.near) c d l
  where
    sum : (xp xn yp yn : ℕ) → Apart (2 ^ 27) D xp xn P N E → Apart (2 ^ 27) D yp yn P' N' E'
        → Apart (2 ^ 27) D (xp + yp) (xn + yn) (P + P') (N + N') (E + E')
    sum xp xn yp yn a b = omega arith

pub approx-neg : {D S : ℕ} {x : Float} {P N E : ℕ} → Approx D S x P N E → Approx D S (neg x) N P E
approx-neg {D} {x = x} {P} {N} {E} a =
    let v : Negated x = negated x a.whole in
    record { scale = a.scale; whole = v.whole; near = rw (v.plus, v.minus) (turn (pos_part x) (neg_part x) a.near) }
  where
    turn : (p n : ℕ) → Apart (2 ^ 27) D p n P N E → Apart (2 ^ 27) D n p N P E
    turn p n c = omega arith

-- times a whole number: w is W with the sign s
pub approx-mul : {D S : ℕ} {x : Float} {P N E : ℕ} (w : Float) (s : Bool) (W m : ℕ) → HasValue w s W 1 → Approx D S x P N E
    → W * (P + N) ≤ m → W * E ≤ 2 ^ 24 * m → m ≤ S
    → Approx D S (mul binary32 w x) (pos_of s W * P + neg_of s W * N) (pos_of s W * N + neg_of s W * P) (W * E + 9 * m)
approx-mul {D} {x = x} {P} {N} {E} w s W m v a c d l =
    step-whole a.scale (pos_of s W * pos_part x + neg_of s W * neg_part x) (pos_of s W * neg_part x + neg_of s W * pos_part x)
    (pos_of s W * P + neg_of s W * N) (pos_of s W * N + neg_of s W * P) (W * E) m
    (λ M i h. mul-near w s W x M v a.whole i h) (product s (pos_part x) (neg_part x) a.near) (mass s) d l
  where
    product : (s : Bool) (p n : ℕ) → Apart (2 ^ 27) D p n P N E
        → Apart (2 ^ 27) D (pos_of s W * p + neg_of s W * n) (pos_of s W * n + neg_of s W * p)
        (pos_of s W * P + neg_of s W * N) (pos_of s W * N + neg_of s W * P) (W * E)
    product true p n b = omega (arith, mul-le-mul_left W b.0, mul-le-mul_left W b.1)
    product false p n b = omega (arith, mul-le-mul_left W b.0, mul-le-mul_left W b.1)

    mass : (s : Bool) → pos_of s W * P + neg_of s W * N + (pos_of s W * N + neg_of s W * P) ≤ m
    mass true = omega arith
    mass false = omega arith

-- A division may lose half a unit besides, which is 2 ^ 26 * D in what errors are counted in: Q is as much, or the mass m is 0 and nothing is lost.
pub data Absorbs (D m Q : ℕ) : Type 0 where
  empty : m ≡ 0 → Absorbs D m Q
  covered : 2 ^ 26 * D ≤ Q → Absorbs D m Q

-- divided by a whole number c above 0, where c * (P' - N') = P - N
pub approx-div : {D S : ℕ} {x : Float} {P N E : ℕ} (y : Float) (c m Q P' N' E' : ℕ) → HasValue y false c 1 → 0 < c → Approx D S x P N E
    → P + N ≤ m → E ≤ 2 ^ 24 * m → m ≤ S → Absorbs D m Q → P + c * N' ≡ c * P' + N → E + 9 * m + c * Q ≤ c * E'
    → Approx D S (div binary32 x y) P' N' E'
approx-div {D} {S} {x} {P} {N} {E} y c m Q P' N' E' v C a i d l o e f = elim o [ empty n ↦ nothing n | covered q ↦ something q ]
  where
    z : Float
    z = div binary32 x y

    nothing : m ≡ 0 → Approx D S z P' N' E'
    nothing none =
        let w = level (pos_part x) (neg_part x) a.near in
        let r = div-near x y c 0 v C a.whole w limit-positive in
        let t = same (pos_part x) (neg_part x) (pos_part z) (neg_part z) r.near w in
        record { scale = a.scale; whole = r.whole; near = after (pos_part z) (neg_part z) t }
      where
        level : (xp xn : ℕ) → Apart (2 ^ 27) D xp xn P N E → Within xp xn 0
        level xp xn b =
            let u : xp * D ≤ (xn + 0) * D = omega arith in
            let v : xn * D ≤ (xp + 0) * D = omega arith in
            (le_of_mul-le-mul_right u a.scale.positive, le_of_mul-le-mul_right v a.scale.positive)

        whole : (zp zn : ℕ) → 2 ^ 24 * zp ≤ 2 ^ 24 * zn + 2 ^ 23 → 2 ^ 24 * zn ≤ 2 ^ 24 * zp + 2 ^ 23 → Within zp zn 0
        whole zp zn u v = omega arith

        same : (xp xn zp zn : ℕ) → Apart (2 ^ 24) c zp zn xp xn (0 + 2 ^ 23 * c) → Within xp xn 0 → Within zp zn 0
        same xp xn zp zn b w =
            let u : 2 ^ 24 * zp * c ≤ (2 ^ 24 * zn + 2 ^ 23) * c = omega arith in
            let v : 2 ^ 24 * zn * c ≤ (2 ^ 24 * zp + 2 ^ 23) * c = omega arith in
            whole zp zn (le_of_mul-le-mul_right u C) (le_of_mul-le-mul_right v C)

        after : (zp zn : ℕ) → Within zp zn 0 → Apart (2 ^ 27) D zp zn P' N' E'
        after zp zn w =
            let u : P' * c ≤ N' * c = omega arith in
            let v : N' * c ≤ P' * c = omega arith in
            let u' : P' ≤ N' = le_of_mul-le-mul_right u C in
            let v' : N' ≤ P' = le_of_mul-le-mul_right v C in
            omega (arith, mul-le-mul_right D w.0, mul-le-mul_right D w.1)

    something : 2 ^ 26 * D ≤ Q → Approx D S z P' N' E'
    something q =
        let r =
        step a.scale {z = z} c (pos_part x) (neg_part x) (2 ^ 23 * c) P N E m (λ M w h. div-near x y c M v C a.whole w h) a.near i d l in
        record { scale = a.scale; whole = r.0; near = after (pos_part z) (neg_part z) r.1 }
      where
        after : (zp zn : ℕ) → Apart (2 ^ 27) D (zp * c) (zn * c) P N (E + 9 * m + 8 * (2 ^ 23 * c * D)) → Apart (2 ^ 27) D zp zn P' N' E'
        after zp zn b =
            let j = mul-le-mul_left c q in
            let u : (2 ^ 27 * (zp * D) + 2 ^ 27 * N') * c ≤ (2 ^ 27 * P' + 2 ^ 27 * (zn * D) + E') * c = omega arith in
            let v : (2 ^ 27 * P' + 2 ^ 27 * (zn * D)) * c ≤ (2 ^ 27 * (zp * D) + 2 ^ 27 * N' + E') * c = omega arith in
            (le_of_mul-le-mul_right u C, le_of_mul-le-mul_right v C)

-- ---- Two floats and two exact numbers, each pair near. Where the floats stand one way round and the exact numbers the other, each float is near
-- the other's number too.
pub approx-cross : {D S : ℕ} {x y : Float} {P N P' N' E : ℕ} → Approx D S x P N E → Approx D S y P' N' E
    → pos_part x + neg_part y ≤ pos_part y + neg_part x → P' + N ≤ P + N' → Approx D S x P' N' E × Approx D S y P N E
approx-cross {D} {S} {x} {y} {P} {N} {P'} {N'} {E} a b h k =
    let c = go (pos_part x) (neg_part x) (pos_part y) (neg_part y) a.near b.near h in
    (record { scale = a.scale; whole = a.whole; near = c.0 }, record { scale = b.scale; whole = b.whole; near = c.1 })
  where
    go : (xp xn yp yn : ℕ) → Apart (2 ^ 27) D xp xn P N E → Apart (2 ^ 27) D yp yn P' N' E → xp + yn ≤ yp + xn
        → Apart (2 ^ 27) D xp xn P' N' E × Apart (2 ^ 27) D yp yn P N E
    go xp xn yp yn a b h =
        let l = mul-le-mul_right D h in
        omega arith
