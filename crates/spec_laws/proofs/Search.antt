-- A search through a list, place by place: one turn, and its end. Assumes nothing.
use Prim.Native.Nat.{ℕ, suc, ◌+◌, ◌≤◌}
use mathlib.Core.Path.{◌≡◌}
use mathlib.Core.Bool.{Bool, true, false, cond}
use mathlib.Core.List.{List, [], ◌∷◌}
use native.Mathlib.Omega.{arith}
use lib.ListN.{length, drop, drop_of_length-le}
use Rattle.spec.specs.Lists.{find_idx}

one_more : (b : Bool) (n m : ℕ) → n ≤ m → cond b 0 (suc n) ≤ suc m
one_more true n m h = omega arith
one_more false n m h = omega arith

module _ {A : Type 0} (p : A → Bool) where
  -- what is found is in the list or its end
  pub find-le : (xs : List A) → find_idx p xs ≤ length xs
  unfolding find_idx
  find-le [] = omega arith
  find-le (x ∷ xs) = one_more (p x) (find_idx p xs) (length xs) (find-le xs)

  module _ (xs : List A) where
    -- what is found if the first i are passed
    abbrev pub found_from : ℕ → ℕ
    found_from i = i + find_idx p (drop i xs)

    pub find-start : found_from 0 ≡ find_idx p xs
    find-start = omega arith

    pub find-here : (i : ℕ) {x : A} → drop i xs ≡ x ∷ drop (i + 1) xs → p x ≡ true → found_from i ≡ i
    unfolding find_idx
    find-here i e h = rw (e, h) (omega arith)

    pub find-on : (i : ℕ) {x : A} → drop i xs ≡ x ∷ drop (i + 1) xs → p x ≡ false → found_from (i + 1) ≡ found_from i
    unfolding find_idx
    find-on i e h = rw (e, h) (omega arith)

    pub find-end : (i : ℕ) → length xs ≤ i → found_from i ≡ i
    unfolding find_idx
    find-end i h = rw (drop_of_length-le xs h) (omega arith)
