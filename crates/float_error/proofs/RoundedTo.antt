-- What `round` gives, in units: below the limit a finite float with its sign, within 2 ^ -24 of the fraction that was rounded and half a unit, and
-- within 2 ^ -24 alone where that fraction is a whole number of units. Assumes nothing.
use mathlib.Core.Path.{◌≡◌, sym, ap, ◌∙◌, subst}
use mathlib.Core.Bool.{Bool, true, false}
use Prim.Native.Nat.{ℕ, ◌+◌, ◌*◌, ◌/◌, ◌^◌, ◌≤◌, ◌<◌}
use native.Mathlib.Nat.{le_of_mul-le-mul_right, mul_assoc, mul-div_cancel, mul-le-mul_right, lt_of_mul-lt-mul_right, mul-lt-mul_of_pos_right}
use native.Mathlib.Omega.{arith}
use lib.Ieee.{Float, nan, inf, fin, binary32, up, down, round}
use lib.Ieee.Fits.{round_is, down_pos}
use lib.Ieee.Exact.{HasValue, units_val}
use lib.Ieee.Order.{drop, kept}
use Rattle.float_error.proofs.Nearest.{Within, rounded, rounded-error, whole-error}
use Rattle.float_error.proofs.Units.{unit, limit, limit-positive, Apart, pos_of, neg_of, pos_part, neg_part, InUnits}

-- ---- `round`: below the limit it is finite and has its sign
finite-rounded : (n c g : ℕ) → 0 < c → n < limit * c → Within (2 ^ 24 * (g * c)) (2 ^ 24 * n) (n + 2 ^ 23 * c) → g < limit + limit
finite-rounded n c g C h w = lt_of_mul-lt-mul_right c (go (mul-le-mul_right c limit-positive))
  where
    go : 1 * c ≤ limit * c → g * c < (limit + limit) * c
    go k = omega arith

finite-below : (g : ℕ) → g < limit + limit → g < 2 ^ 277
unfolding limit
finite-below g h = h

round-value : (s : Bool) (num den : ℕ) → 0 < den → num * unit < limit * den → HasValue (round binary32 s num den) s (rounded (num * unit) den) unit
unfolding unit
round-value s num den D h =
    subst (λ (z : Float). HasValue z s (rounded (num * 2 ^ 149) den) (2 ^ 149)) (sym (round_is binary32 s num den))
    (units_val binary32 s (kept 24 (num * 2 ^ 149) den) (drop 24 (num * 2 ^ 149) den)
    (finite-below g (finite-rounded (num * unit) den g D h (rounded-error (num * unit) den D))))
  where
    g : ℕ
    g = rounded (num * unit) den

-- ---- x is a units, with the sign s
record Parts (x : Float) (s : Bool) (a : ℕ) : Type 0 where
  pub whole : InUnits x
  pub plus : pos_part x ≡ pos_of s a
  pub minus : neg_part x ≡ neg_of s a

parts-of : (x : Float) (s : Bool) (a : ℕ) → HasValue x s a unit → Parts x s a
parts-of nan s a h = absurd h
parts-of (inf t) s a h = absurd h
parts-of (fin t m e) s a h =
    let q : m * up e * unit / down e ≡ a = ap (λ (z : ℕ). z / down e) h.1 ∙ mul-div_cancel a (down_pos e) in
    record {
      whole = h.1 ∙ ap (λ (z : ℕ). z * down e) (sym q);
      plus = ap (λ (z : ℕ). pos_of t z) q ∙ ap (λ (r : Bool). pos_of r a) h.0;
      minus = ap (λ (z : ℕ). neg_of t z) q ∙ ap (λ (r : Bool). neg_of r a) h.0;
    }

-- ---- a float z is within E / (2 ^ 24 * u) units of (P - N) / u units
pub record RoundedTo (z : Float) (u P N E : ℕ) : Type 0 where
  pub whole : InUnits z
  pub near : Apart (2 ^ 24) u (pos_part z) (neg_part z) P N E

-- the same number as another difference, and a larger error
pub rounded-as : {z : Float} {u P N E : ℕ} (P' N' E' : ℕ) → P + N' ≡ P' + N → E ≤ E' → RoundedTo z u P N E → RoundedTo z u P' N' E'
rounded-as {z} {u} {P} {N} {E} P' N' E' e h r = record { whole = r.whole; near = go (pos_part z) (neg_part z) r.near }
  where
    go : (p n : ℕ) → Apart (2 ^ 24) u p n P N E → Apart (2 ^ 24) u p n P' N' E'
    go p n c = omega arith

signed : {z : Float} (s : Bool) (g u X E : ℕ) → HasValue z s g unit → Within (2 ^ 24 * (g * u)) (2 ^ 24 * X) E
    → RoundedTo z u (pos_of s X) (neg_of s X) E
signed {z} s g u X E v w = record { whole = i.whole; near = rw (i.plus, i.minus) (go s) }
  where
    i : Parts z s g
    i = parts-of z s g v

    go : (s : Bool) → Apart (2 ^ 24) u (pos_of s g) (neg_of s g) (pos_of s X) (neg_of s X) E
    go true = omega arith
    go false = omega arith

-- num / den is X / u units: within X / u / 2 ^ 24 and half a unit. k and l bring the two to one denominator.
pub round-near : (s : Bool) (num den u X k l : ℕ) → 0 < den → 0 < l → num * unit * k ≡ X * l → den * k ≡ u * l → 0 < k → X < limit * u
    → RoundedTo (round binary32 s num den) u (pos_of s X) (neg_of s X) (X + 2 ^ 23 * u)
round-near s num den u X k l D L e d K h =
    signed s (rounded (num * unit) den) u X (X + 2 ^ 23 * u) (round-value s num den D (lt_of_mul-lt-mul_right k far))
    (cancel (rounded (num * unit) den) (num * unit) e (rounded-error (num * unit) den D))
  where
    far : num * unit * k < limit * den * k
    far =
        let a : X * l < limit * u * l = mul-lt-mul_of_pos_right h L in
        let b : limit * den * k ≡ limit * u * l = mul_assoc limit den k ∙ ap (λ (z : ℕ). limit * z) d ∙ sym (mul_assoc limit u l) in
        rw (e, b) a

    cancel : (g n : ℕ) → n * k ≡ X * l → Within (2 ^ 24 * (g * den)) (2 ^ 24 * n) (n + 2 ^ 23 * den)
        → Within (2 ^ 24 * (g * u)) (2 ^ 24 * X) (X + 2 ^ 23 * u)
    cancel g n e w =
        let p = mul-le-mul_right k w.0 in
        let q = mul-le-mul_right k w.1 in
        let f : g * (den * k) ≡ g * (u * l) = ap (λ (z : ℕ). g * z) d in
        let a : 2 ^ 24 * (g * u) * l ≤ (2 ^ 24 * X + (X + 2 ^ 23 * u)) * l = omega arith in
        let b : 2 ^ 24 * X * l ≤ (2 ^ 24 * (g * u) + (X + 2 ^ 23 * u)) * l = omega arith in
        (le_of_mul-le-mul_right a L, le_of_mul-le-mul_right b L)

-- num / den is a whole number X of units: within X / 2 ^ 24
pub round_whole : (s : Bool) (num den X : ℕ) → 0 < den → num * unit ≡ X * den → X < limit
    → RoundedTo (round binary32 s num den) 1 (pos_of s X) (neg_of s X) X
round_whole s num den X D e h =
    let g = rounded (num * unit) den in
    signed s g 1 X X (round-value s num den D (rw e (mul-lt-mul_of_pos_right h D))) (one g (whole-error (num * unit) den X D e))
  where
    one : (g : ℕ) → Within (2 ^ 24 * g) (2 ^ 24 * X) X → Within (2 ^ 24 * (g * 1)) (2 ^ 24 * X) X
    one g w = omega arith
