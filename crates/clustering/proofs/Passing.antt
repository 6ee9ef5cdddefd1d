-- A test that every element of a list passes. Assumes nothing.
use Prim.Native.Nat.{ℕ, zero, suc}
use mathlib.Core.Path.{◌≡◌, refl}
use mathlib.Core.Bool.{Bool, true}
use mathlib.Core.List.{List, [], ◌∷◌, ◌++◌}
use lib.ListN.{take, drop}
use Rattle.spec.specs.Lists.{all}
use Rattle.spec_laws.proofs.All.{and_left, and_right}

module _ {A : Type 0} (p : A → Bool) where
  pub all_first : {xs rest : List A} {x : A} → xs ≡ x ∷ rest → all p xs ≡ true → p x ≡ true
  unfolding all
  all_first {x = x} e h = and_left (p x) _ (rw e at h)

  pub all_rest : {xs rest : List A} {x : A} → xs ≡ x ∷ rest → all p xs ≡ true → all p rest ≡ true
  unfolding all
  all_rest {x = x} e h = and_right (p x) _ (rw e at h)

  pub all_take : (n : ℕ) (xs : List A) → all p xs ≡ true → all p (take n xs) ≡ true
  unfolding all
  all_take zero xs e = refl
  all_take (suc n) [] e = refl
  all_take (suc n) (x ∷ xs) e = rw (and_left (p x) _ e) (all_take n xs (and_right (p x) _ e))

  pub all_drop : (n : ℕ) (xs : List A) → all p xs ≡ true → all p (drop n xs) ≡ true
  unfolding all
  all_drop zero xs e = e
  all_drop (suc n) [] e = refl
  all_drop (suc n) (x ∷ xs) e = all_drop n xs (and_right (p x) _ e)

  pub all_push : (xs : List A) (x : A) → all p xs ≡ true → p x ≡ true → all p (xs ++ (x ∷ [])) ≡ true
  unfolding all
  all_push [] x e h = rw h
  all_push (y ∷ xs) x e h = rw (and_left (p y) _ e) (all_push xs x (and_right (p y) _ e) h)
