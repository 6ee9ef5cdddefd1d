-- A walk over records of one size from the last to the first: one turn, and its end. For any reader and any sum. Assumes nothing.
use Prim.Native.Nat.{ℕ, zero, suc, ◌+◌, ◌-◌, ◌*◌, ◌≤◌, ◌<◌}
use mathlib.Core.Path.{◌≡◌, refl, sym, ap, ◌∙◌}
use mathlib.Core.List.{List, foldr}
use native.Mathlib.Nat.{not-suc-le-zero}
use native.Mathlib.Omega.{arith}
use lib.ListN.{drop}
use lib.Seq.{drop-drop}
use Rattle.spec.specs.Bytes.{rows}

module _ {A B : Type 0} (size : ℕ) (read : List ℕ → A) (add : A → B → B) where
  -- the first k records, added to a sum from the last of them to the first
  abbrev pub added : ℕ → List ℕ → B → B
  added k bs sum = foldr add sum (rows (λ r. size) read k bs)

  one_more : (k : ℕ) (bs : List ℕ) (sum : B) → added k bs (add (read (drop (k * size) bs)) sum) ≡ added (suc k) bs sum
  unfolding rows
  one_more zero bs sum = let none : zero * size ≡ zero = omega arith in rw none
  one_more (suc k) bs sum =
      let further : suc k * size ≡ size + k * size = omega arith in
      let there : drop (suc k * size) bs ≡ drop (k * size) (drop size bs) = ap (λ m. drop m bs) further ∙ sym (drop-drop (k * size) size bs) in
      ap (λ d. added (suc k) bs (add (read d) sum)) there ∙ ap (add (read bs)) (one_more k (drop size bs) sum)

  pub added-turn : (k : ℕ) (bs : List ℕ) (sum : B) → 0 < k → added (k - 1) bs (add (read (drop ((k - 1) * size) bs)) sum) ≡ added k bs sum
  added-turn zero bs sum h = absurd (not-suc-le-zero h)
  added-turn (suc k) bs sum h = let less : suc k - 1 ≡ k = omega arith in rw less (one_more k bs sum)

  pub added-done : (k : ℕ) (bs : List ℕ) (sum : B) → k ≤ 0 → added k bs sum ≡ sum
  unfolding rows
  added-done zero bs sum h = refl
  added-done (suc k) bs sum h = absurd (not-suc-le-zero h)
