-- One turn and the end of a walk over records, for any reader, size and test. Assumes nothing.
use Prim.Native.Nat.{ℕ, zero, suc, ◌+◌, ◌-◌, ◌<◌, ◌≤◌}
use mathlib.Core.Path.{◌≡◌, refl, sym, ap}
use mathlib.Core.Bool.{Bool, ◌&&◌}
use mathlib.Core.List.{List, [], ◌∷◌}
use native.Mathlib.Nat.{not-suc-le-zero}
use native.Mathlib.Omega.{arith}
use lib.ListN.{drop}
use lib.Dec.{eqb}
use borrow.Author.Tests.{ne_eqb}
use Rattle.spec.specs.Lists.{all, is_empty}
use Rattle.spec.specs.Bytes.{rows, sizes, all_records}

less_one : (n : ℕ) → suc n - 1 ≡ n
less_one n = omega arith

module _ {A : Type 0} (size : List ℕ → ℕ) (read : List ℕ → A) where
  pub rows-turn : (n : ℕ) (bs : List ℕ) → 0 < n → rows size read n bs ≡ read bs ∷ rows size read (n - 1) (drop (size bs) bs)
  unfolding rows
  rows-turn zero bs h = absurd (not-suc-le-zero h)
  rows-turn (suc n) bs h = rw (less_one n)

  pub rows-done : (n : ℕ) (bs : List ℕ) → n ≤ 0 → rows size read n bs ≡ []
  unfolding rows
  rows-done zero bs h = refl
  rows-done (suc n) bs h = absurd (not-suc-le-zero h)

  pub rows_empty : (n : ℕ) (bs : List ℕ) → is_empty (rows size read n bs) ≡ eqb n 0
  unfolding is_empty rows
  rows_empty zero bs = refl
  rows_empty (suc n) bs = sym (ne_eqb (suc n) 0 (λ e. omega arith))

  -- a test of all the records that are read
  pub all-each : (p : A → Bool) (n : ℕ) (bs : List ℕ) → all p (rows size read n bs) ≡ all_records size (λ b. p (read b)) n bs
  unfolding all rows all_records
  all-each p zero bs = refl
  all-each p (suc n) bs = ap (λ b. p (read bs) && b) (all-each p n (drop (size bs) bs))

-- a walk over n records stands at `bs`, behind i of them
module _ (size : List ℕ → ℕ) (n i : ℕ) (bs : List ℕ) where
  pub sizes-turn : i < n → (done : ℕ) → done + size bs + sizes size (n - (i + 1)) (drop (size bs) bs) ≡ done + sizes size (n - i) bs
  unfolding sizes
  sizes-turn h done = let left : n - i ≡ suc (n - (i + 1)) = omega arith in rw left (omega arith)

  pub sizes-done : n ≤ i → sizes size (n - i) bs ≡ 0
  unfolding sizes
  sizes-done h = let left : n - i ≡ 0 = omega arith in rw left refl
