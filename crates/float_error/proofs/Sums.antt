-- Lists of floats beside lists of fractions: their sums, the sums so far, and what each of a count takes of what a sum lacks. Assumes nothing.
-- The two lists are of any two types, and x and q read a float of an element of the one and a fraction of an element of the other.
use mathlib.Core.List.{List, [], ◌∷◌, foldl}
use Prim.Native.Nat.{ℕ, suc, ◌+◌, ◌*◌, ◌^◌, ◌≤◌, ◌<◌}
use native.Mathlib.Nat.{le_refl, le_trans}
use native.Mathlib.Omega.{arith}
use lib.IntN.{pos}
use lib.Ieee.{Float, binary32, add, sub, div, of_int, of_bits}
use Rattle.float_error.specs.Fraction.{Frac, 0ᵠ, ◌+ᵠ◌, ◌-ᵠ◌, ◌/ᵠ◌}
use Rattle.float_error.proofs.CommonDenominator.{Reads, reads_as, reads-add}
use Rattle.float_error.proofs.Approx.{Scale, Absorbs}
use Rattle.float_error.proofs.Track.{Track, track-weaken, track-lower, track-add, track-sub}
use Rattle.float_error.proofs.Quotients.{track-count}
use Rattle.float_error.proofs.Operands.{track-zero}

-- ---- the sum of a list, from s on and from r on
abbrev pub float_sum : {A : Type 0} → (A → Float) → Float → List A → Float
float_sum {A} x s xs = foldl (λ (s : Float) (a : A). add binary32 s (x a)) s xs

abbrev pub frac_sum : {B : Type 0} → (B → Frac) → Frac → List B → Frac
frac_sum {B} q r qs = foldl (λ (r : Frac) (b : B). r +ᵠ q b) r qs

-- ---- n terms that have at most the mass m and the error E together
pub data Terms {A B : Type 0} (D S F : ℕ) (x : A → Float) (q : B → Frac) : List A → List B → ℕ → ℕ → ℕ → Type 0 where
  none : {m E : ℕ} → Terms D S F x q [] [] m E 0
  more : {a : A} {b : B} {xs : List A} {qs : List B} {m E m' E' n : ℕ} (M G : ℕ) → Track D S F (x a) (q b) m E → Terms D S F x q xs qs m' E' n
      → m + m' ≤ M → E + E' ≤ G → Terms D S F x q (a ∷ xs) (b ∷ qs) M G (suc n)

-- ---- the sums so far, from s and r on: each has at most the mass M and the error E. It goes along the two lists as a loop that adds up does.
pub data Running {A B : Type 0} (D S F M E : ℕ) (x : A → Float) (q : B → Frac) : Float → Frac → List A → List B → Type 0 where
  done : {s : Float} {r : Frac} → Track D S F s r M E → Running D S F M E x q s r [] []
  next : {s : Float} {r : Frac} {a : A} {b : B} {xs : List A} {qs : List B} → Track D S F s r M E
      → Running D S F M E x q (add binary32 s (x a)) (r +ᵠ q b) xs qs → Running D S F M E x q s r (a ∷ xs) (b ∷ qs)

module _ {A B : Type 0} {x : A → Float} {q : B → Frac} {D S : ℕ} where
  pub terms-weaken : {F : ℕ} {xs : List A} {qs : List B} {m E n : ℕ} (m' E' : ℕ) → m ≤ m' → E ≤ E' → Terms D S F x q xs qs m E n
      → Terms D S F x q xs qs m' E' n
  terms-weaken m' E' h k none = none
  terms-weaken m' E' h k (more M G t ts i j) = more m' E' t ts (le_trans i h) (le_trans j k)

  pub terms-lower : (F c : ℕ) {xs : List A} {qs : List B} {m E n : ℕ} → Terms D S (c * F) x q xs qs m E n → Terms D S F x q xs qs m E n
  terms-lower F c none = none
  terms-lower F c (more M G t ts i j) = more M G (track-lower F c t) (terms-lower F c ts) i j

  -- ---- sums: each of n terms costs 9 * M, where M is at least the mass of them all
  pub track-sum-from : {F : ℕ} {s : Float} {r : Frac} {xs : List A} {qs : List B} {m₀ E₀ m E n : ℕ} (M : ℕ) → Track D S F s r m₀ E₀
      → Terms D S F x q xs qs m E n → m₀ + m ≤ M → E₀ + E + 9 * (n * M) ≤ 2 ^ 24 * M → M ≤ S
      → Track D S F (float_sum x s xs) (frac_sum q r qs) (m₀ + m) (E₀ + E + 9 * (n * M))
  track-sum-from {m₀ = m₀} {E₀ = E₀} {m = m} {E = E} M t none h k l =
      track-weaken (m₀ + m) (E₀ + E + 9 * (0 * M)) (omega arith) (omega arith) t
  track-sum-from {s = s} {r = r} {m₀ = m₀} {E₀ = E₀} {m = m} {E = E} M t (more {a = a} {b = b} {n = n} m₁ E₁ u ts i j) h k l =
      let v = track-sum-from {s = add binary32 s (x a)} {r = r +ᵠ q b} M (track-add M t u (omega arith) (omega arith) l) ts (omega arith) (omega arith) l in
      track-weaken (m₀ + m) (E₀ + E + 9 * (suc n * M)) (omega arith) (omega arith) v

  -- from 0 on
  pub track-sum : {F : ℕ} {xs : List A} {qs : List B} {m E n : ℕ} → Scale D S → Terms D S F x q xs qs m E n
      → E + 9 * (n * m) ≤ 2 ^ 24 * m → m ≤ S
      → Track D S F (float_sum x (of_bits binary32 0) xs) (frac_sum q 0ᵠ qs) m (E + 9 * (n * m))
  track-sum {F = F} {m = m} {E = E} {n = n} sc ts k l =
      let v = track-sum-from m (track-zero sc F 0 0) ts (omega arith) (omega arith) l in
      track-weaken m (E + 9 * (n * m)) (omega arith) (omega arith) v

  -- the sums so far
  pub track-running : {F : ℕ} {s : Float} {r : Frac} {xs : List A} {qs : List B} {m₀ E₀ m E n : ℕ} (M G : ℕ) → Track D S F s r m₀ E₀
      → Terms D S F x q xs qs m E n → m₀ + m ≤ M → E₀ + E + 9 * (n * M) ≤ G → G ≤ 2 ^ 24 * M → M ≤ S
      → Running D S F M G x q s r xs qs
  track-running M G t none h k g l = done (track-weaken M G (omega arith) (omega arith) t)
  track-running {s = s} {r = r} M G t (more {a = a} {b = b} m₁ E₁ u ts i j) h k g l =
      let v = track-running {s = add binary32 s (x a)} {r = r +ᵠ q b} M G (track-add M t u (omega arith) (omega arith) l) ts (omega arith) (omega arith) g l in
      next (track-weaken M G (omega arith) (omega arith) t) v

  -- ---- What each of c takes of what a sum of n terms lacks of a target. The target has the mass m₀ and the error E₀, the terms m and E; as in
  -- `track-div`, the share has the mass m' and the error E'.
  pub track-share : {t : Float} {r : Frac} {xs : List A} {qs : List B} {m₀ E₀ m E n : ℕ} (F c Q m' E' : ℕ) → Scale D S → 0 < c → c < 2 ^ 24
      → Track D S (c * F) t r m₀ E₀ → Terms D S (c * F) x q xs qs m E n → E + 9 * (n * m) ≤ 2 ^ 24 * m
      → E₀ + E + 9 * (n * m) + 9 * (m₀ + m) ≤ 2 ^ 24 * (m₀ + m) → m₀ + m ≤ S → Absorbs D (m₀ + m) Q
      → m₀ + m < c * m' + c → E₀ + E + 9 * (n * m) + 18 * (m₀ + m) + c * Q ≤ c * E'
      → Track D S F (div binary32 (sub binary32 t (float_sum x (of_bits binary32 0) xs)) (of_int binary32 (pos c))) ((r -ᵠ frac_sum q 0ᵠ qs) /ᵠ c) m' E'
  track-share {m₀ = m₀} {m = m} F c Q m' E' sc C small t ts h k l o i e =
      let lack = track-sub (m₀ + m) t (track-sum sc ts h (omega arith)) (le_refl (m₀ + m)) (omega arith) l in
      track-count F c Q m' E' C small lack (omega arith) l o i (omega arith)

-- ---- a sum of fractions that are not negative: m is theirs together
pub data Sizes {B : Type 0} (D : ℕ) (q : B → Frac) : List B → ℕ → Type 0 where
  nil : Sizes D q [] 0
  cons : {b : B} {qs : List B} {m n : ℕ} → Reads D (q b) m 0 → Sizes D q qs n → Sizes D q (b ∷ qs) (m + n)

pub reads-sizes : {B : Type 0} {q : B → Frac} {D : ℕ} {r : Frac} {qs : List B} {R m : ℕ} → Reads D r R 0 → Sizes D q qs m
    → Reads D (frac_sum q r qs) (R + m) 0
reads-sizes {R = R} t nil = reads_as (R + 0) 0 (omega arith) t
reads-sizes {q = q} {r = r} {R = R} t (cons {b = b} {m = m} {n = n} u ts) =
    reads_as (R + (m + n)) 0 (omega arith) (reads-sizes {r = r +ᵠ q b} (reads_as (R + m) 0 (omega arith) (reads-add t u)) ts)
