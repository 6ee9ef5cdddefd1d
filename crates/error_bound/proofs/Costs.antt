-- What the steps cost at most in a chunk of g glyphs: errors as multiples of the mass that they belong to. Assumes nothing.
use Prim.Native.Nat.{ℕ, ◌+◌, ◌*◌}

-- steps 2 to 5: an advance of a cluster of g glyphs
abbrev pub spaced_cost : ℕ → ℕ
spaced_cost g = 9 * g + 37

-- step 6: what one cluster gets of a text length, what all clusters of the span get together, and all advances that there are then
abbrev pub amount_cost : ℕ → ℕ
amount_cost g = 9 * g + 74

abbrev pub amounts_cost : ℕ → ℕ
amounts_cost g = 28 * g + 129

abbrev pub advances_cost : ℕ → ℕ
advances_cost g = 67 * g + 159
