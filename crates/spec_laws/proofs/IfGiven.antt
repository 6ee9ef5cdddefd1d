-- What holds of an outcome's value, where there is one. Assumes nothing.
use mathlib.Core.Path.{◌≡◌, refl, subst}
use Rattle.spec.specs.Outcome.{Outcome, refused, given, and_then, IfGiven}

module _ {A : Type 0} (P : A → Type 0) where
  pub if-given : (o : Outcome A) → ((a : A) → o ≡ given a → P a) → IfGiven P o
  if-given (refused n) h = tt
  if-given (given a) h = h a refl

  pub of-given : (o : Outcome A) (a : A) → IfGiven P o → o ≡ given a → P a
  of-given o a k e = subst (IfGiven P) e k

  -- the next step
  pub given-then : {B : Type 0} (Q : B → Type 0) (o : Outcome A) (f : A → Outcome B) → IfGiven P o → ((a : A) → P a → IfGiven Q (f a)) → IfGiven Q (and_then o f)
  unfolding and_then
  given-then Q (refused n) f k h = tt
  given-then Q (given a) f k h = h a k
