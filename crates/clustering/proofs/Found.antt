-- The library's search for a place, as the definitions search. Assumes nothing.
use Prim.Native.Nat.{ℕ, suc, ◌+◌, ◌≤◌, ◌<◌}
use mathlib.Core.Path.{◌≡◌, refl, sym, ◌∙◌}
use mathlib.Core.Bool.{Bool, true, false, cond}
use mathlib.Core.List.{List, [], ◌∷◌, map}
use native.Mathlib.Omega.{arith}
use lib.ListN.{length}
use lib.Dec.{ltb}
use borrow.Author.Tests.{ltb-true, ltb-false}
use Rattle.std.specs.Prelude.{Option, Some, None, MatchOption, is_some, unwrap_or}
use Rattle.std.specs.List.{position, position_or_len}
use Rattle.std.proofs.lemmas.List.Recursion.{is_position_or_len}
use Rattle.spec.specs.Lists.{find_idx}
use Rattle.spec_laws.proofs.Search.{find-le}

-- `place`, if it is one of n
abbrev pub Found : ℕ → ℕ → Option ℕ → Type 0
Found place n o = MatchOption o (place ≡ n) (λ k. (k ≡ place) × (k < n))

found-choice : (place n : ℕ) (b : Bool) → ltb place n ≡ b → place ≤ n → Found place n (cond b (Some place) None)
found-choice place n true e h = (refl, ltb-true _ _ e)
found-choice place n false e h = let above = ltb-false _ _ e in omega arith

module _ {A : Type 0} (p : A → Bool) where
  find-is : (xs : List A) → find_idx p xs ≡ position_or_len p xs
  unfolding find_idx
  find-is xs = is_position_or_len (find_idx p) p refl (λ x xs. let e : 1 + find_idx p xs ≡ suc (find_idx p xs) = omega arith in rw e) xs

  pub found : (xs : List A) {o : Option ℕ} → o ≡ position p xs → Found (find_idx p xs) (length xs) o
  found xs e = rw (e, ← find-is xs) (found-choice (find_idx p xs) (length xs) _ refl (find-le p xs))

  find-map : {B : Type 0} (f : B → A) (xs : List B) → find_idx p (map f xs) ≡ find_idx (λ (x : B). p (f x)) xs
  unfolding find_idx
  find-map f [] = refl
  find-map f (x ∷ xs) = rw (find-map f xs)

-- among what f gives of the elements
pub found-map : {A B : Type 0} (p : A → Bool) (f : B → A) (xs : List B) {o : Option ℕ} → o ≡ position (λ (x : B). p (f x)) xs
    → Found (find_idx p (map f xs)) (length xs) o
found-map p f xs e = rw (find-map p f xs) (found _ xs e)

-- `place`, if n is taken where none is found
pub found-or : (place n : ℕ) (o : Option ℕ) {r : ℕ} → r ≡ unwrap_or o n → Found place n o → (r ≡ place) × (r ≤ n)
found-or place n None e here = (e ∙ sym here, omega arith)
found-or place n (Some k) e here = (e ∙ here.0, omega arith)

-- whether it is found
pub found-some : (place n : ℕ) (o : Option ℕ) {b : Bool} → b ≡ is_some o → b ≡ true → Found place n o → place < n
found-some place n None e h here = cc
found-some place n (Some k) e h here = rw (← here.0) here.1

pub found-none : (place n : ℕ) (o : Option ℕ) {b : Bool} → b ≡ is_some o → b ≡ false → Found place n o → place ≡ n
found-none place n None e h here = here
found-none place n (Some k) e h here = cc
