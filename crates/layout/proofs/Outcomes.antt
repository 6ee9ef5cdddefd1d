-- The outcome behind where the layout stands. Assumes nothing.
use Prim.Native.Nat.{ℕ}
use mathlib.Core.Path.{◌≡◌, refl}
use Rattle.spec.specs.Outcome.{Outcome, refused, given}
use Rattle.spec.specs.Layout.{Progress}
use Rattle.chunk.specs.declared.progress.Progress as chunk
use Rattle.chunk.specs.Steps.{progress_after, result_of}

pub refused-of : (n : ℕ) (o : Outcome Progress) {k : ℕ} → refused k ≡ result_of n o → o ≡ refused k
unfolding result_of
refused-of n (refused m) e = cc
refused-of n (given st) e = cc

pub given-of : (n : ℕ) (o : Outcome Progress) {r : chunk.Progress} → given r ≡ result_of n o → (st : Progress) × (o ≡ given st) × (r ≡ progress_after n st)
unfolding result_of
given-of n (refused m) e = cc
given-of n (given st) e = (st, refl, cc)
