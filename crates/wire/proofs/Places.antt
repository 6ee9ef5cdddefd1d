-- What stands past a place of a list. Assumes nothing.
use Prim.Native.Nat.{ℕ, zero, suc, ◌+◌, ◌-◌, min}
use mathlib.Core.Path.{◌≡◌, refl, sym, ◌∙◌}
use mathlib.Core.List.{List, [], ◌∷◌}
use native.Mathlib.Nat.{zero-min, min-zero, suc-min-suc}
use native.Mathlib.Omega.{arith}
use lib.ListN.{length, take, drop, length-drop}
use lib.Seq.{take_all, drop-drop}

module _ {A : Type 0} where
  -- all that stands from `at` on
  pub take_rest : (at : ℕ) (l : List A) → take (length l - at) (drop at l) ≡ drop at l
  take_rest at l = take_all (length l - at) (drop at l) (simp length-drop (omega arith))

  -- nothing stands past the end: what follows a place is what follows it cut off at the end
  pub cut-drops : (at : ℕ) (l : List A) {r : ℕ} → r ≡ min at (length l) → drop r l ≡ drop at l
  cut-drops zero l e = rw (e, zero-min)
  cut-drops (suc at) [] e = rw (e, min-zero)
  cut-drops (suc at) (x ∷ l) e = rw (e, suc-min-suc) (cut-drops at l refl)

  -- the same of the place `size` further on
  pub after-drops : (at size : ℕ) (l : List A) {r : ℕ} → r ≡ min (at + size) (length l) → drop r l ≡ drop size (drop at l)
  after-drops at size l e = cut-drops (at + size) l e ∙ sym (drop-drop size at l)
