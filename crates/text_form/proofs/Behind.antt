-- A walk over `n` records has gone over i of them: what stands behind those that are left stays the same from turn to turn.
-- Assumes nothing.
use Prim.Native.Nat.{ℕ, suc, ◌+◌, ◌-◌, ◌≤◌, ◌<◌, min}
use mathlib.Core.Path.{◌≡◌, refl}
use mathlib.Core.List.{List}
use native.Mathlib.Omega.{arith}
use lib.ListN.{length, drop}
use lib.Seq.{drop-drop}
use Rattle.spec.specs.Bytes.{sizes}
use Rattle.wire.proofs.Places.{after-drops}
use Rattle.text_form.specs.Walk.{behind}

module _ (size : List ℕ → ℕ) where
  turn : (left : ℕ) (bs : List ℕ) → behind size left (drop (size bs) bs) ≡ behind size (suc left) bs
  unfolding sizes
  turn left bs = drop-drop (sizes size left (drop (size bs) bs)) (size bs) bs

  none : (bs : List ℕ) → bs ≡ behind size 0 bs
  unfolding sizes
  none bs = refl

  module _ (n i : ℕ) where
    -- the walk over s stands at p, where `row` is; the record there ends at k, and q is the place behind it
    pub behind-on : (s row : List ℕ) (p k q : ℕ) → row ≡ drop p s → drop k row ≡ drop (size row) row → q ≡ min (p + k) (length s) → i < n
        → behind size (n - (i + 1)) (drop q s) ≡ behind size (n - i) (drop p s)
    behind-on s row p k q row_is ends q-is h = rw (after-drops p k s q-is, rw row_is at ends, one_more) (turn (n - (i + 1)) (drop p s))
      where
        one_more : n - i ≡ suc (n - (i + 1))
        one_more = omega (arith, h)

    pub behind-none : (bs : List ℕ) → n ≤ i → bs ≡ behind size (n - i) bs
    behind-none bs h = rw over (none bs)
      where
        over : n - i ≡ 0
        over = omega (arith, h)

  pub behind-all : (n : ℕ) (bs : List ℕ) → behind size (n - 0) bs ≡ behind size n bs
  behind-all n bs = rw whole
    where
      whole : n - 0 ≡ n
      whole = omega arith
