-- Sums over a list: of lists put together, of two numbers for each element, and after steps that make no element's number larger.
-- Assumes nothing.
use Prim.Native.Nat.{ℕ, zero, suc, ◌+◌, ◌*◌, ◌≤◌}
use mathlib.Core.Path.{◌≡◌, refl}
use mathlib.Core.List.{List, [], ◌∷◌, ◌++◌, map}
use native.Mathlib.Nat.{le_refl}
use native.Mathlib.Omega.{arith}
use lib.ListN.{length, drop}
use Rattle.spec.specs.Bytes.{rows, sizes}
use Rattle.spec.specs.Lists.{modify, scan}
use Rattle.spec.specs.Answer.{sum}

-- f of each element, added up
abbrev pub total : {A : Type 0} → (A → ℕ) → List A → ℕ
total f xs = sum (map f xs)

pub total-append : {A : Type 0} (f : A → ℕ) (xs ys : List A) → total f (xs ++ ys) ≡ total f xs + total f ys
total-append f [] ys = omega arith
total-append f (x ∷ xs) ys = omega (arith, total-append f xs ys)

pub total-plus : {A : Type 0} (f g : A → ℕ) (xs : List A) → total (λ (x : A). f x + g x) xs ≡ total f xs + total g xs
total-plus f g [] = refl
total-plus f g (x ∷ xs) = omega (arith, total-plus f g xs)

pub total-none : {A : Type 0} (xs : List A) → total (λ (x : A). 0) xs ≡ 0
total-none [] = refl
total-none (x ∷ xs) = omega (arith, total-none xs)

-- each element is made of one whose number is no smaller
pub total-map : {A B : Type 0} (f : A → ℕ) (g : B → ℕ) (h : B → A) → ((x : B) → f (h x) ≤ g x) → (xs : List B) → total f (map h xs) ≤ total g xs
total-map f g h p [] = le_refl 0
total-map f g h p (x ∷ xs) = omega (arith, p x, total-map f g h p xs)

module _ {A : Type 0} (f : A → ℕ) where
  pub total-scan : {S : Type 0} (next : S → A → S) (h : S → A → A) → ((s : S) (x : A) → f (h s x) ≤ f x) → (s : S) (xs : List A) → total f (scan next h s xs) ≤ total f xs
  unfolding scan
  total-scan next h p s [] = le_refl 0
  total-scan next h p s (x ∷ xs) = omega (arith, p s x, total-scan next h p (next s x) xs)

  pub total-modify : (h : A → A) → ((x : A) → f (h x) ≤ f x) → (xs : List A) (i : ℕ) → total f (modify h xs i) ≤ total f xs
  unfolding modify
  total-modify h p [] i = le_refl 0
  total-modify h p (x ∷ xs) zero = omega (arith, p x)
  total-modify h p (x ∷ xs) (suc i) = omega (arith, total-modify h p xs i)

-- a numbers for each element, and b for each that f counts
pub total-counted : {A : Type 0} (a b : ℕ) (f : A → ℕ) (xs : List A) → total (λ (x : A). a + b * f x) xs ≡ a * length xs + b * total f xs
total-counted a b f [] = omega arith
total-counted a b f (x ∷ xs) = omega (arith, total-counted a b f xs)

-- records one after the other, each with a number that is no larger than its size
pub total-rows : {A : Type 0} (f : A → ℕ) (size : List ℕ → ℕ) (read : List ℕ → A) → ((bs : List ℕ) → f (read bs) ≤ size bs) → (n : ℕ) (bs : List ℕ) → total f (rows size read n bs) ≤ sizes size n bs
unfolding rows sizes
total-rows f size read h zero bs = le_refl 0
total-rows f size read h (suc n) bs = omega (arith, h bs, total-rows f size read h n (drop (size bs) bs))
