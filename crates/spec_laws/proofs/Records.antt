-- Records one after the other: as many as the count says, each behind those before it. Assumes nothing.
use Prim.Native.Nat.{ℕ, zero, suc, ◌<◌}
use mathlib.Core.Path.{◌≡◌, refl, ap, ◌∙◌}
use mathlib.Core.List.{List}
use native.Mathlib.Nat.{le_of_suc-le-suc, not-suc-le-zero}
use lib.ListN.{length, get_or, drop}
use lib.Seq.{drop-drop}
use Rattle.spec.specs.Bytes.{rows, sizes}

module _ {A : Type 0} (size : List ℕ → ℕ) (read : List ℕ → A) where
  pub length-rows : (n : ℕ) (bs : List ℕ) → length (rows size read n bs) ≡ n
  unfolding rows
  length-rows zero bs = refl
  length-rows (suc n) bs = ap suc (length-rows n (drop (size bs) bs))

  -- row i stands behind the i rows before it
  pub rows_at : (n : ℕ) (bs : List ℕ) (i : ℕ) (d : A) → i < n → get_or (rows size read n bs) i d ≡ read (drop (sizes size i bs) bs)
  unfolding rows sizes
  rows_at zero bs i d h = absurd (not-suc-le-zero h)
  rows_at (suc n) bs zero d h = refl
  rows_at (suc n) bs (suc i) d h =
      rows_at n (drop (size bs) bs) i d (le_of_suc-le-suc h) ∙ ap read (drop-drop (sizes size i (drop (size bs) bs)) (size bs) bs)
