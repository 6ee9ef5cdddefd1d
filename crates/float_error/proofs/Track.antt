-- A float beside the fraction that it stands for, `Track D S F x q m E`, and what each operation makes of it. Assumes nothing.
--
-- What it says. A unit is 2 ^ -149, and every finite float is a whole number of units. The fraction q is (P - N) / D units, where P and N are
-- natural numbers, multiples of F, with P + N ≤ m. The float x is finite, and |x - q| ≤ E / (2 ^ 27 * D) units.
--
-- D  the common denominator of a whole computation, the same for all its numbers: the product of the divisors on the way from an input to a result,
--    and 1 if nothing is divided. With it fractions are added and compared as whole numbers are, so that `omega` does it.
-- S  a bound of all masses, in D-ths of a unit. `Scale D S` says that D is above 0, that S leaves room below the largest float, so that no result
--    overflows, and that S is 2 ^ 50 or more as a value. `scale_at D` is that for S = reach * D.
-- F  the level: the part of D that is still there to be divided by. A division by c goes from the level c * F to the level F, and P and N stay whole
--    numbers. An input stands at any level that divides D (`track-exact`), so it is taken at the product of the divisors to come. `track-lower` goes
--    from c * F to F with no division, so that numbers that were divided and numbers that were not meet at one level. A computation begins at the
--    largest level that it needs and ends at the smallest, mostly 1.
-- m  the mass, in D-ths of a unit: a bound of P + N. It is the sum of the sizes of the inputs that q was added up from, and q may be far smaller:
--    a - b has the mass of a and that of b. Rounding a sum loses a part of its size, which is at most its mass, so errors are counted by masses.
-- E  the distance, in parts of 2 ^ -27 of a D-th of a unit. An input has E = 0.
--
-- What an operation costs. A result of a mass of at most M is rounded by at most 2 ^ -24 of its size, which is 8 * M in what E counts. Its size is
-- that of the floats, not of the fractions, so the errors made before are rounded with it: at most 1 * M more, if they are at most 2 ^ 24 * M. So an
-- addition adds 9 * M to the errors of its operands. M is the user's choice: the mass of the result, or a larger one where the errors ask for it.
-- Negation, maximum and minimum cost nothing. `track-weaken` replaces m and E by larger ones.
--
-- Why there is no absolute term. A sum of floats is a whole number of units, and so is a product by a whole number. Rounding to nearest moves such a
-- number by at most 2 ^ -24 of its size, however small it is: if it needs rounding at all it has more than 24 digits. So a mass of 0 has the error 0,
-- and no case is needed for it. Only a division can lose half a unit besides, which is 2 ^ 26 * D in what E counts. `Absorbs D m Q` says that Q is
-- as much, or that the mass m is 0 and nothing is lost. The mass of an input gives it (`Operands`), and so do sums of such masses (`Quotients`).
--
-- How it ends. `track-near` turns a Track into `Near`: x is finite and within h / c of q, said of the fractions themselves.
use mathlib.Core.Path.{◌≡◌, refl}
use mathlib.Core.Bool.{Bool, true, false, not, cond}
use Prim.Native.Nat.{ℕ, suc, ◌+◌, ◌*◌, ◌^◌, ◌≤◌, ◌<◌}
use native.Mathlib.Nat.{le_refl, le_trans, le_of_eq, le_of_lt, mul_assoc, mul-le-mul_left, lt_of_mul-lt-mul_right}
use native.Mathlib.Omega.{arith}
use lib.IntN.{ℤ, pos, negsuc, nat_abs}
use lib.Dec.{T, ltb, ltb→lt, nltb→le}
use lib.Ieee.{Float, binary32, add, sub, mul, div, neg, lt, of_int}
use lib.Ieee.Exact.{HasValue}
use lib.Ieee.Scale.{finite}
use Rattle.float_error.specs.Fraction.{Frac, ◌+ᵠ◌, negᵠ, ◌-ᵠ◌, ◌·ᵠ◌, ◌/ᵠ◌, ltᵠ, value_of}
use Rattle.float_error.proofs.Units.{pos_of, neg_of, pos_part, neg_part, size_of, InUnits, in-units-finite}
use Rattle.float_error.proofs.WholeNumbers.{is_negative, of_int-exact}
use Rattle.float_error.proofs.Compare.{lt-units}
use Rattle.float_error.proofs.IntegerParts.{pos_partℤ, neg_partℤ}
use Rattle.float_error.proofs.CommonDenominator.{Reads, reads_as, reads-neg, reads-add, reads-mul, reads-div, reads-lt, reads-value}
use Rattle.float_error.proofs.Approx.{Scale, Approx, Absorbs, approx-add, approx-neg, approx-exact, approx-as, approx-mul, approx-div, approx-cross}
use Rattle.float_error.proofs.Near.{Near, approx-near}

pub record Track (D S F : ℕ) (x : Float) (q : Frac) (m E : ℕ) : Type 0 where
  pub p : ℕ
  pub n : ℕ
  pub approx : Approx D S x (p * F) (n * F) E
  pub reads : Reads D q (p * F) (n * F)
  pub mass : (p + n) * F ≤ m

-- ---- what it gives
pub track-finite : {D S F : ℕ} {x : Float} {q : Frac} {m E : ℕ} → Track D S F x q m E → T (finite x)
track-finite {x = x} t = in-units-finite x t.approx.whole

pub track-positive : {D S F : ℕ} {x : Float} {q : Frac} {m E : ℕ} → Track D S F x q m E → 0 < q.den
track-positive t = t.reads.positive

-- x is within h / c of q, where h is R / D units
pub track-near : {D S F : ℕ} {x : Float} {q h : Frac} {m E R : ℕ} (c : ℕ) → 0 < c → Track D S F x q m E → Reads D h R 0 → E * c ≤ 2 ^ 27 * R
    → Near x q (h /ᵠ c)
track-near c C t r k = approx-near c C t.approx t.reads r k

-- ---- a larger mass and error; a smaller level
pub track-weaken : {D S F : ℕ} {x : Float} {q : Frac} {m E : ℕ} (m' E' : ℕ) → m ≤ m' → E ≤ E' → Track D S F x q m E → Track D S F x q m' E'
track-weaken {F = F} m' E' h k t =
    record {
      p = t.p;
      n = t.n;
      approx = approx-as (t.p * F) (t.n * F) E' refl k t.approx;
      reads = t.reads;
      mass = le_trans t.mass h;
    }

pub track-lower : {D S : ℕ} {x : Float} {q : Frac} {m E : ℕ} (F c : ℕ) → Track D S (c * F) x q m E → Track D S F x q m E
track-lower F c t =
    record {
      p = t.p * c;
      n = t.n * c;
      approx = rw (mul_assoc t.p c F, mul_assoc t.n c F) t.approx;
      reads = rw (mul_assoc t.p c F, mul_assoc t.n c F) t.reads;
      mass = le_trans (le_of_eq (split t.p t.n)) t.mass;
    }
  where
    split : (a b : ℕ) → (a * c + b * c) * F ≡ (a + b) * (c * F)
    split a b = omega arith

-- ---- a float as it stands, at any level that divides D
pub track-exact : {D S : ℕ} → Scale D S → (F f : ℕ) (x : Float) → D ≡ f * F → InUnits x → Track D S F x (value_of x) (size_of x * D) 0
track-exact {D} sc F f x e g =
    record {
      p = pos_part x * f;
      n = neg_part x * f;
      approx = approx-as (pos_part x * f * F) (neg_part x * f * F) 0 (parts (pos_part x) (neg_part x)) (le_refl 0) (approx-exact sc x g);
      reads = reads_as (pos_part x * f * F) (neg_part x * f * F) (parts (pos_part x) (neg_part x)) (reads-value D x g);
      mass = le_of_eq (mass (pos_part x) (neg_part x));
    }
  where
    parts : (a b : ℕ) → a * D + b * f * F ≡ a * f * F + b * D
    parts a b = rw e (omega arith)

    mass : (a b : ℕ) → (a * f + b * f) * F ≡ (a + b) * D
    mass a b = rw e (omega arith)

-- ---- negation, sum, difference
pub track-neg : {D S F : ℕ} {x : Float} {q : Frac} {m E : ℕ} → Track D S F x q m E → Track D S F (neg x) (negᵠ q) m E
track-neg {F = F} {m = m} t =
    record { p = t.n; n = t.p; approx = approx-neg t.approx; reads = reads-neg t.reads; mass = turn t.p t.n t.mass }
  where
    turn : (a b : ℕ) → (a + b) * F ≤ m → (b + a) * F ≤ m
    turn a b h = omega arith

pub track-add : {D S F : ℕ} {x y : Float} {q r : Frac} {m E m' E' : ℕ} (M : ℕ) → Track D S F x q m E → Track D S F y r m' E'
    → m + m' ≤ M → E + E' ≤ 2 ^ 24 * M → M ≤ S → Track D S F (add binary32 x y) (q +ᵠ r) (m + m') (E + E' + 9 * M)
track-add {F = F} {m = m} {E = E} {m' = m'} {E' = E'} M t u h k l =
    let P = (t.p + u.p) * F in
    let N = (t.n + u.n) * F in
    let e = regroup t.p t.n u.p u.n in
    let sum = both t.p t.n u.p u.n t.mass u.mass in
    record {
      p = t.p + u.p;
      n = t.n + u.n;
      approx = approx-as P N (E + E' + 9 * M) e (le_refl (E + E' + 9 * M)) (approx-add M t.approx u.approx (le_trans sum.0 h) k l);
      reads = reads_as P N e (reads-add t.reads u.reads);
      mass = sum.1;
    }
  where
    regroup : (a b c d : ℕ) → a * F + c * F + (b + d) * F ≡ (a + c) * F + (b * F + d * F)
    regroup a b c d = omega arith

    both : (a b c d : ℕ) → (a + b) * F ≤ m → (c + d) * F ≤ m' → (a * F + c * F + (b * F + d * F) ≤ m + m') × ((a + c + (b + d)) * F ≤ m + m')
    both a b c d u v = omega arith

pub track-sub : {D S F : ℕ} {x y : Float} {q r : Frac} {m E m' E' : ℕ} (M : ℕ) → Track D S F x q m E → Track D S F y r m' E'
    → m + m' ≤ M → E + E' ≤ 2 ^ 24 * M → M ≤ S → Track D S F (sub binary32 x y) (q -ᵠ r) (m + m') (E + E' + 9 * M)
unfolding sub
track-sub M t u h k l = track-add M t (track-neg u) h k l

-- ---- times a whole number
pub track-mul : {D S F : ℕ} {x : Float} {q : Frac} {m E : ℕ} (w : ℤ) (M : ℕ) → nat_abs w < 2 ^ 24 → Track D S F x q m E
    → nat_abs w * m ≤ M → nat_abs w * E ≤ 2 ^ 24 * M → M ≤ S
    → Track D S F (mul binary32 (of_int binary32 w) x) (w ·ᵠ q) (nat_abs w * m) (nat_abs w * E + 9 * M)
track-mul {F = F} {m = m} {E = E} w M b t h k l =
    let p = pos_partℤ w * t.p + neg_partℤ w * t.n in
    let n = pos_partℤ w * t.n + neg_partℤ w * t.p in
    let e = regroup (pos_partℤ w) (neg_partℤ w) t.p t.n in
    let mass = mul-le-mul_left (nat_abs w) t.mass in
    let whole = le_trans (le_of_eq (sum (nat_abs w) t.p t.n)) (le_trans mass h) in
    record {
      p = p;
      n = n;
      approx =
          approx-as (p * F) (n * F) (nat_abs w * E + 9 * M) e (le_refl (nat_abs w * E + 9 * M))
          (rw ((signed w).0, (signed w).1) at (approx-mul (of_int binary32 w) (is_negative w) (nat_abs w) M (of_int-exact w b) t.approx whole k l));
      reads = reads_as (p * F) (n * F) e (reads-mul w t.reads);
      mass = le_trans (le_of_eq (product w t.p t.n)) mass;
    }
  where
    signed : (w : ℤ) → (pos_of (is_negative w) (nat_abs w) ≡ pos_partℤ w) × (neg_of (is_negative w) (nat_abs w) ≡ neg_partℤ w)
    signed (pos n) = (refl, refl)
    signed (negsuc n) = (refl, refl)

    sum : (k a b : ℕ) → k * (a * F + b * F) ≡ k * ((a + b) * F)
    sum k a b = omega arith

    regroup : (u v a b : ℕ) → u * (a * F) + v * (b * F) + (u * b + v * a) * F ≡ (u * a + v * b) * F + (u * (b * F) + v * (a * F))
    regroup u v a b = omega arith

    product : (w : ℤ) (a b : ℕ) → (pos_partℤ w * a + neg_partℤ w * b + (pos_partℤ w * b + neg_partℤ w * a)) * F ≡ nat_abs w * ((a + b) * F)
    product (pos n) a b = omega arith
    product (negsuc n) a b = omega arith

-- ---- divided by a whole number: y is c, and m' is m / c or more, rounded down
pub track-div : {D S : ℕ} {x : Float} {q : Frac} {m E : ℕ} (F : ℕ) (y : Float) (c Q m' E' : ℕ) → HasValue y false c 1 → 0 < c
    → Track D S (c * F) x q m E → E ≤ 2 ^ 24 * m → m ≤ S → Absorbs D m Q → m < c * m' + c → E + 9 * m + c * Q ≤ c * E'
    → Track D S F (div binary32 x y) (q /ᵠ c) m' E'
track-div {m = m} F y c Q m' E' v C t k l o h e =
    let mass = le_trans (le_of_eq (sum t.p t.n)) t.mass in
    record {
      p = t.p;
      n = t.n;
      approx = approx-div y c m Q (t.p * F) (t.n * F) E' v C t.approx mass k l o (cross t.p t.n) e;
      reads = reads-div c (t.p * F) (t.n * F) C (cross t.p t.n) t.reads;
      mass = le-of-lt-suc (lt_of_mul-lt-mul_right c (cut (t.p + t.n) t.mass));
    }
  where
    sum : (a b : ℕ) → a * (c * F) + b * (c * F) ≡ (a + b) * (c * F)
    sum a b = omega arith

    cross : (a b : ℕ) → a * (c * F) + c * (b * F) ≡ c * (a * F) + b * (c * F)
    cross a b = omega arith

    cut : (a : ℕ) → a * (c * F) ≤ m → a * F * c < suc m' * c
    cut a u = omega arith

    le-of-lt-suc : {a b : ℕ} → a < suc b → a ≤ b
    le-of-lt-suc {a} {b} h = omega arith

-- ---- the larger and the smaller of two. Each side chooses by its own order, and where the two numbers are close the sides may choose differently.

-- x ≤ y and r ≤ q: each float is near the other's fraction too
track-cross : {D S F : ℕ} {x y : Float} {q r : Frac} {m E : ℕ} (t : Track D S F x q m E) (u : Track D S F y r m E)
    → pos_part x + neg_part y ≤ pos_part y + neg_part x → u.p * F + t.n * F ≤ t.p * F + u.n * F
    → Track D S F x r m E × Track D S F y q m E
track-cross t u h k =
    let a = approx-cross t.approx u.approx h k in (
      record { p = u.p; n = u.n; approx = a.0; reads = u.reads; mass = u.mass },
      record { p = t.p; n = t.n; approx = a.1; reads = t.reads; mass = t.mass },
    )

-- so the larger is near the larger, and the other near the other, whichever way each side decides
track-order : {D S F : ℕ} {x y : Float} {q r : Frac} {m E : ℕ} → Track D S F x q m E → Track D S F y r m E
    → Track D S F (cond (lt x y) y x) (cond (ltᵠ q r) r q) m E × Track D S F (cond (lt x y) x y) (cond (ltᵠ q r) q r) m E
track-order {D} {S} {F} {x} {y} {q} {r} {m} {E} t u =
    go (lt x y) (ltᵠ q r) (decided (lt-units x y t.approx.whole u.approx.whole))
    (decided (reads-lt t.approx.scale.positive t.reads u.reads))
  where
    decided : {b : Bool} {i j : ℕ} → b ≡ ltb i j → (T b → i ≤ j) × (T (not b) → j ≤ i)
    decided {b} {i} {j} e = rw e ((λ h. le_of_lt (ltb→lt i j h)), nltb→le i j)

    go : (a b : Bool) → (T a → pos_part x + neg_part y ≤ pos_part y + neg_part x) × (T (not a) → pos_part y + neg_part x ≤ pos_part x + neg_part y)
        → (T b → t.p * F + u.n * F ≤ u.p * F + t.n * F) × (T (not b) → u.p * F + t.n * F ≤ t.p * F + u.n * F)
        → Track D S F (cond a y x) (cond b r q) m E × Track D S F (cond a x y) (cond b q r) m E
    go true true f g = (u, t)
    go true false f g = let c = track-cross t u (f.0 tt) (g.1 tt) in (c.1, c.0)
    go false true f g = let c = track-cross u t (f.1 tt) (g.0 tt) in (c.1, c.0)
    go false false f g = (t, u)

pub track-max : {D S F : ℕ} {x y : Float} {q r : Frac} {m E : ℕ} → Track D S F x q m E → Track D S F y r m E
    → Track D S F (cond (lt x y) y x) (cond (ltᵠ q r) r q) m E
track-max t u = (track-order t u).0

pub track-min : {D S F : ℕ} {x y : Float} {q r : Frac} {m E : ℕ} → Track D S F x q m E → Track D S F y r m E
    → Track D S F (cond (lt y x) y x) (cond (ltᵠ r q) r q) m E
track-min t u = (track-order u t).1
