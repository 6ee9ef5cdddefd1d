-- Lists of floats beside lists of fractions: their maxima and minima, each side choosing by its own order. Assumes nothing.
-- The two lists are of any two types, and x and q read a float of an element of the one and a fraction of an element of the other.
use mathlib.Core.Bool.{cond}
use mathlib.Core.List.{List, [], ◌∷◌, foldl}
use Prim.Native.Nat.{ℕ, ◌≤◌}
use native.Mathlib.Omega.{arith}
use lib.Ieee.{Float, lt}
use Rattle.float_error.specs.Fraction.{Frac, ltᵠ}
use Rattle.float_error.proofs.Track.{Track, track-weaken, track-max, track-min}
use Rattle.float_error.proofs.Sums.{Terms, Terms.none, Terms.more}

-- ---- the largest and the smallest of a list, with s and with r
abbrev pub float_maximum : {A : Type 0} → (A → Float) → Float → List A → Float
float_maximum {A} x s xs = foldl (λ (s : Float) (a : A). cond (lt s (x a)) (x a) s) s xs

abbrev pub frac_maximum : {B : Type 0} → (B → Frac) → Frac → List B → Frac
frac_maximum {B} q r qs = foldl (λ (r : Frac) (b : B). cond (ltᵠ r (q b)) (q b) r) r qs

abbrev pub float_minimum : {A : Type 0} → (A → Float) → Float → List A → Float
float_minimum {A} x s xs = foldl (λ (s : Float) (a : A). cond (lt (x a) s) (x a) s) s xs

abbrev pub frac_minimum : {B : Type 0} → (B → Frac) → Frac → List B → Frac
frac_minimum {B} q r qs = foldl (λ (r : Frac) (b : B). cond (ltᵠ (q b) r) (q b) r) r qs

-- ---- elements that have at most the mass m and the error E each
pub data Each {A B : Type 0} (D S F m E : ℕ) (x : A → Float) (q : B → Frac) : List A → List B → Type 0 where
  nil : Each D S F m E x q [] []
  cons : {a : A} {b : B} {xs : List A} {qs : List B} → Track D S F (x a) (q b) m E → Each D S F m E x q xs qs → Each D S F m E x q (a ∷ xs) (b ∷ qs)

module _ {A B : Type 0} {x : A → Float} {q : B → Frac} {D S F : ℕ} where
  -- each has at most what all have together
  pub terms-each : {xs : List A} {qs : List B} {m E n : ℕ} (M G : ℕ) → m ≤ M → E ≤ G → Terms D S F x q xs qs m E n → Each D S F M G x q xs qs
  terms-each M G h k none = nil
  terms-each M G h k (more m₁ E₁ t ts i j) = cons (track-weaken M G (omega arith) (omega arith) t) (terms-each M G (omega arith) (omega arith) ts)

  -- any choice of one of two that keeps within m and E
  track-fold : {m E : ℕ} (f : Float → Float → Float) (g : Frac → Frac → Frac)
      → ((y z : Float) (u v : Frac) → Track D S F y u m E → Track D S F z v m E → Track D S F (f y z) (g u v) m E)
      → {s : Float} {r : Frac} {xs : List A} {qs : List B} → Track D S F s r m E → Each D S F m E x q xs qs
      → Track D S F (foldl (λ (s : Float) (a : A). f s (x a)) s xs) (foldl (λ (r : Frac) (b : B). g r (q b)) r qs) m E
  track-fold f g k t nil = t
  track-fold f g k {s} {r} t (cons {a = a} {b = b} u ts) = track-fold f g k {s = f s (x a)} {r = g r (q b)} (k s (x a) r (q b) t u) ts

  pub track-maximum : {s : Float} {r : Frac} {m E : ℕ} {xs : List A} {qs : List B} → Track D S F s r m E → Each D S F m E x q xs qs
      → Track D S F (float_maximum x s xs) (frac_maximum q r qs) m E
  track-maximum t ts = track-fold (λ s y. cond (lt s y) y s) (λ r u. cond (ltᵠ r u) u r) (λ y z u v. track-max) t ts

  pub track-minimum : {s : Float} {r : Frac} {m E : ℕ} {xs : List A} {qs : List B} → Track D S F s r m E → Each D S F m E x q xs qs
      → Track D S F (float_minimum x s xs) (frac_minimum q r qs) m E
  track-minimum t ts = track-fold (λ s y. cond (lt y s) y s) (λ r u. cond (ltᵠ u r) u r) (λ y z u v. track-min) t ts
