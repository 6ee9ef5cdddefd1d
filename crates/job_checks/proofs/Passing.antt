-- A walk that asks whether each of n records passes stands at the first of them, in bs: one turn, and the end. Assumes nothing.
use Prim.Native.Nat.{ℕ, zero, suc, ◌-◌, ◌<◌, ◌≤◌}
use mathlib.Core.Path.{◌≡◌, refl}
use mathlib.Core.Bool.{Bool, true, false}
use mathlib.Core.List.{List}
use native.Mathlib.Nat.{not-suc-le-zero}
use native.Mathlib.Omega.{arith}
use lib.ListN.{drop}
use Rattle.spec.specs.Bytes.{all_records}

less_one : (n : ℕ) → suc n - 1 ≡ n
less_one n = omega arith

module _ (size : List ℕ → ℕ) (ok : List ℕ → Bool) where
  pub each-on : (n : ℕ) (bs : List ℕ) → 0 < n → true ≡ ok bs → all_records size ok (n - 1) (drop (size bs) bs) ≡ all_records size ok n bs
  unfolding all_records
  each-on zero bs h passes = absurd (not-suc-le-zero h)
  each-on (suc n) bs h passes = rw (less_one n, ← passes) refl

  -- no place is taken behind the last
  pub each-last : (n : ℕ) (bs : List ℕ) → 0 < n → n - 1 ≤ 0 → true ≡ ok bs → all_records size ok (n - 1) bs ≡ all_records size ok n bs
  unfolding all_records
  each-last zero bs h last passes = absurd (not-suc-le-zero h)
  each-last (suc zero) bs h last passes = rw (← passes) refl
  each-last (suc (suc n)) bs h last passes = absurd (omega arith)

  pub each-stop : (n : ℕ) (bs : List ℕ) → 0 < n → false ≡ ok bs → false ≡ all_records size ok n bs
  unfolding all_records
  each-stop zero bs h fails = absurd (not-suc-le-zero h)
  each-stop (suc n) bs h fails = rw (← fails) refl

  pub each-done : (n : ℕ) (bs : List ℕ) → n ≤ 0 → true ≡ all_records size ok n bs
  unfolding all_records
  each-done zero bs h = refl
  each-done (suc n) bs h = absurd (not-suc-le-zero h)
