-- The library's test of any element, as the definitions ask it. Assumes nothing.
use mathlib.Core.Path.{◌≡◌, refl}
use mathlib.Core.Bool.{Bool}
use mathlib.Core.List.{List, [], ◌∷◌, map}
use Rattle.std.specs.List.{list_any}
use Rattle.spec.specs.Lists.{any}

module _ {A B : Type 0} (p : B → Bool) (f : A → B) where
  pub any-map : (xs : List A) → any p (map f xs) ≡ list_any (λ (x : A). p (f x)) xs
  unfolding any
  any-map [] = refl
  any-map (x ∷ xs) = rw (any-map xs)

  -- of what f gives of the elements
  pub any-found : (xs : List A) {r : Bool} → r ≡ list_any (λ (x : A). p (f x)) xs → r ≡ any p (map f xs)
  any-found xs e = rw (any-map xs) e
