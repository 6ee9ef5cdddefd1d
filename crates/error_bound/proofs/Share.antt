-- Step 6: what each of some clusters gets of a target. Their numbers, brought to it, have the mass m and the error e together, and the target has the
-- mass L. Assumes nothing.
use Prim.Native.Nat.{ℕ, suc, ◌+◌, ◌-◌, ◌*◌, ◌/◌, ◌%◌, ◌^◌, ◌≤◌, ◌<◌}
use mathlib.Core.Path.{◌≡◌}
use mathlib.Core.List.{List, foldl}
use native.Mathlib.Nat.{mul-le-mul_right, div-add-mod', mod-lt, le_of_suc-le-suc, lt_of_mul-lt-mul_left}
use native.Mathlib.Omega.{arith}
use lib.IntN.{pos}
use lib.Ieee.{Float, binary32, add, sub, div, of_int, of_bits}
use Rattle.float_error.specs.Fraction.{Frac, 0ᵠ, ◌+ᵠ◌, ◌-ᵠ◌, ◌/ᵠ◌}
use Rattle.float_error.proofs.Approx.{Scale, Absorbs}
use Rattle.float_error.proofs.Track.{Track}
use Rattle.float_error.proofs.Sums.{Terms, track-share}
use Rattle.error_bound.proofs.Costs.{spaced_cost, amount_cost, amounts_cost}

-- divided and rounded up
abbrev up_to : ℕ → ℕ → ℕ
up_to n c = (n + (c - 1)) / c

up-to : (n c : ℕ) → 0 < c → (n ≤ c * up_to n c) × (c * up_to n c ≤ n + (c - 1))
up-to n c h = go (up_to n c) ((n + (c - 1)) % c) (div-add-mod' (n + (c - 1)) c) (mod-lt (n + (c - 1)) h)
  where
    go : (q r : ℕ) → q * c + r ≡ n + (c - 1) → r < c → (n ≤ c * q) × (c * q ≤ n + (c - 1))
    go q r e l = (omega arith, omega arith)

-- there are c + 1 of them, at most as many as glyphs
module _ (c m e L g : ℕ) (some : 0 < c) (few : suc c ≤ g) (g-few : g ≤ 1024) (cheap : e ≤ spaced_cost g * m) where
  abbrev h : ℕ
  h = L + m

  -- what the operations before the division cost
  abbrev costs : ℕ
  costs = e + 9 * (suc c * m) + 18 * h

  -- a share's error: the division's own, and a share of the costs
  abbrev pub share_error : ℕ
  share_error = h + up_to costs c

  pub share : {A B : Type 0} {x : A → Float} {q : B → Frac} {D S : ℕ} {t : Float} {r : Frac} {xs : List A} {qs : List B} (F : ℕ) → Scale D S
      → Track D S (c * F) t r L 0 → Terms D S (c * F) x q xs qs m e (suc c) → h ≤ S → Absorbs D h h
      → Track D S F (div binary32 (sub binary32 t (foldl (λ (s : Float) (a : A). add binary32 s (x a)) (of_bits binary32 0) xs)) (of_int binary32 (pos c)))
      ((r -ᵠ foldl (λ (r : Frac) (b : B). r +ᵠ q b) 0ᵠ qs) /ᵠ c) (h / c) share_error
  share F sc t ts fits absorbs =
      track-share F c h (h / c) share_error sc some (omega arith) t ts (sum (mul-le-mul_right m few) (mul-le-mul_right m g-few)) (rest (mul-le-mul_right m few) (mul-le-mul_right m g-few)) fits absorbs (quotient h)
      (whole (up_to costs c) (up-to costs c some).0)
    where
      sum : suc c * m ≤ g * m → g * m ≤ 1024 * m → e + 9 * (suc c * m) ≤ 2 ^ 24 * m
      sum i j = omega (arith, cheap)

      rest : suc c * m ≤ g * m → g * m ≤ 1024 * m → 0 + e + 9 * (suc c * m) + 9 * h ≤ 2 ^ 24 * h
      rest i j = omega (arith, cheap)

      quotient : (n : ℕ) → n < c * (n / c) + c
      quotient n = go (n / c) (n % c) (div-add-mod' n c) (mod-lt n some)
        where
          go : (q r : ℕ) → q * c + r ≡ n → r < c → n < c * q + c
          go q r e h = omega arith

      whole : (u : ℕ) → costs ≤ c * u → 0 + e + 9 * (suc c * m) + 18 * h + c * h ≤ c * (h + u)
      whole u i = omega arith

  -- a number that does not depend on c bounds c-th parts
  each : c * up_to costs c < c * ((9 * g + 73) * h) + c
  each = omega (arith, (up-to costs c some).1, cheap, mul-le-mul_right (spaced_cost g * m) some, mul-le-mul_right m some, mul-le-mul_right h some)

  pub share-error : share_error ≤ amount_cost g * h
  share-error = omega (arith, cut (up_to costs c) ((9 * g + 73) * h) each)
    where
      less : (a b : ℕ) → c * a < c * b + c → c * a < c * suc b
      less a b i = omega arith

      cut : (a b : ℕ) → c * a < c * b + c → a ≤ b
      cut a b i = le_of_suc-le-suc (lt_of_mul-lt-mul_left c (less a b i))

  -- of all c + 1 shares: a bound of one, taken so often, would grow with the square of g
  pub shares-error : c ≤ h → suc c * share_error ≤ amounts_cost g * h
  shares-error large = omega (arith, share-error, (up-to costs c some).1, cheap, mul-le-mul_right m few, mul-le-mul_right h few)
