-- A track with its error written in another way. Assumes nothing.
use Prim.Native.Nat.{ℕ}
use mathlib.Core.Path.{◌≡◌, subst}
use lib.Ieee.{Float}
use Rattle.float_error.specs.Fraction.{Frac}
use Rattle.float_error.proofs.Track.{Track}

pub track-as : {D S F : ℕ} {x : Float} {q : Frac} {m E E' : ℕ} → E ≡ E' → Track D S F x q m E → Track D S F x q m E'
track-as {D} {S} {F} {x} {q} {m} e t = subst (λ (E : ℕ). Track D S F x q m E) e t
