-- The named floats are the ones nearest to the numbers that their comments say: a quotient of whole numbers is rounded once. Assumes nothing.
use mathlib.Core.Path.{◌≡◌, refl}
use mathlib.Core.List.{[], ◌∷◌}
use Rattle.spec.specs.Single.{◌/ᶠ◌, of_nat, +0, half, two, four_fifths, thousandth, smallest, largest, smallest_size, largest_size}
use Rattle.spec.proofs.Compute.{computed}

constants : +0 ∷ half ∷ two ∷ four_fifths ∷ thousandth ∷ smallest ∷ largest ∷ smallest_size ∷ largest_size ∷ []
    ≡ of_nat 0 ∷ (of_nat 1 /ᶠ of_nat 2) ∷ of_nat 2 ∷ (of_nat 4 /ᶠ of_nat 5) ∷ (of_nat 1 /ᶠ of_nat 1000) ∷ (of_nat 1 /ᶠ of_nat 1048576) ∷ of_nat 1048576
    ∷ (of_nat 1 /ᶠ of_nat 16) ∷ of_nat 4096 ∷ []
unfolding computed
constants = refl
