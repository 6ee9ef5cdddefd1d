-- At most n elements that all have a property: what a step over a list keeps. Assumes nothing.
use Prim.Native.Nat.{ℕ, zero, suc, ◌≤◌}
use mathlib.Core.Path.{◌≡◌, refl, ap}
use mathlib.Core.List.{List, [], ◌∷◌, map, foldl}
use lib.ListN.{length, length-map}
use Rattle.spec_laws.proofs.All.{all_map, all-modify, all-scan, fold-keeps}
use Rattle.spec_laws.proofs.AsMany.{length-scan}
use Rattle.spec.specs.Lists.{modify, scan, All}

pub record Few {A : Type 0} (P : A → Type 0) (n : ℕ) (xs : List A) : Type 0 where
  pub each : All P xs
  pub few : length xs ≤ n

pub length-modify : {A : Type 0} (f : A → A) (xs : List A) (i : ℕ) → length (modify f xs i) ≡ length xs
unfolding modify
length-modify f [] i = refl
length-modify f (x ∷ xs) zero = refl
length-modify f (x ∷ xs) (suc i) = ap suc (length-modify f xs i)

module _ {A : Type 0} {P : A → Type 0} {n : ℕ} where
  pub few-map : {B : Type 0} (Q : B → Type 0) (f : A → B) → ((x : A) → P x → Q (f x)) → {xs : List A} → Few P n xs → Few Q n (map f xs)
  few-map Q f h {xs} k = record { each = all_map Q f h k.each; few = rw (length-map xs f) k.few }

  pub few-scan : {S : Type 0} (next : S → A → S) (f : S → A → A) → ((s : S) (x : A) → P x → P (f s x)) → (s : S) {xs : List A} → Few P n xs → Few P n (scan next f s xs)
  few-scan next f h s {xs} k = record { each = all-scan next f h s k.each; few = rw (length-scan next f s xs) k.few }

  pub few-modify : (f : A → A) → ((x : A) → P x → P (f x)) → {xs : List A} (i : ℕ) → Few P n xs → Few P n (modify f xs i)
  few-modify f h {xs} i k = record { each = all-modify f h k.each i; few = rw (length-modify f xs i) k.few }

  -- at several places, one after the other
  pub few-modifies : (f : A → A) → ((x : A) → P x → P (f x)) → {xs : List A} (is : List ℕ) → Few P n xs → Few P n (foldl (modify f) xs is)
  few-modifies f h {xs} is k = fold-keeps (Few P n) (modify f) (λ ys i q. few-modify f h i q) xs k is
