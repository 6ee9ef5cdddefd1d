-- The constants of the distance: what is behind step 6, in a chunk with a text length and in one without, and how sharp that lets step 7 be.
-- Assumes nothing.
use Prim.Native.Nat.{ℕ, ◌+◌, ◌*◌, ◌^◌, ◌≤◌}
use native.Mathlib.Nat.{le_trans, mul-le-mul_left, mul-le-mul_right}
use native.Mathlib.Omega.{arith}
use lib.Dec.{lit≤}
use Rattle.error_bound.proofs.Costs.{spaced_cost, amount_cost, advances_cost}
use Rattle.error_bound.proofs.Positions.{offset_error, reach_mass}

-- n clusters of g glyphs, in a chunk of s spans. T has the mass H + X: H of the clusters with their spacing and of the text lengths, X of the shifts.
-- z is the mass of 1, and S the largest mass that there is room for
pub record Sizes (S z g n s H X : ℕ) : Type 0 where
  pub large : 2 ^ 50 * z ≤ S
  pub glyphs : g ≤ 1024
  pub clusters : n ≤ g
  pub spans : s ≤ 32
  pub total : H + X ≤ (g + 4 * n + s) * (2 ^ 28 * z)

-- Behind step 6 all advances together have the mass B and the error E, and a length spacing has Y and Ey: then step 7 places each cluster within
-- (g + 3) × T ÷ 2 ^ k
pub record Numbers (g n H X Y Ey B E k : ℕ) : Type 0 where
  pub advances : E + 9 * (g * B) ≤ 2 ^ 24 * B
  pub least : H + X ≤ reach_mass B X Y
  pub most : reach_mass B X Y ≤ 4 * (H + X)
  pub sharp : 2 ^ 18 ≤ 2 ^ k
  pub distance : offset_error B E g X (9 * (n * X)) Y Ey * 2 ^ k ≤ 2 ^ 27 * ((g + 3) * (H + X))

module _ {S z g n s H X : ℕ} (m : Sizes S z g n s H X) where
  -- ---- the two kinds of chunks

  -- with a text length the error is at most (511 g + 1,533) H + (81 g + 198) X, and 512 (g + 3) (H + X) is allowed
  pub length-numbers : Numbers g n H X H (amount_cost g * H) (3 * H) (advances_cost g * H) 18
  length-numbers =
      record {
        advances = omega (arith, mul-le-mul_right H m.glyphs);
        least = omega arith;
        most = omega arith;
        sharp = lit≤ tt;
        distance = omega (arith, mul-le-mul_right X m.clusters);
      }

  -- without one it is at most (99 g + 319) H + (81 g + 198) X, and 128 (g + 3) (H + X) is allowed
  pub plain-numbers : Numbers g n H X 0 0 H (spaced_cost g * H) 20
  plain-numbers =
      record {
        advances = omega (arith, mul-le-mul_right H m.glyphs);
        least = omega arith;
        most = omega arith;
        sharp = lit≤ tt;
        distance = omega (arith, mul-le-mul_right X m.clusters);
      }

  -- ---- there is room for all sums

  few : g + 4 * n + s ≤ 5152
  few = omega (arith, m.glyphs, m.clusters, m.spans)

  far : H + X ≤ 5152 * (2 ^ 28 * z)
  far = le_trans m.total (mul-le-mul_right (2 ^ 28 * z) few)

  pub H-small : H ≤ 2 ^ 48 * z
  H-small = omega (arith, far)

  pub shifts_fit : X ≤ S
  shifts_fit = omega (arith, far, m.large)

  module _ {Y Ey B E k : ℕ} (nums : Numbers g n H X Y Ey B E k) where
    pub fits : 6 * reach_mass B X Y ≤ S
    fits = go (reach_mass B X Y) (H + X) nums.most far
      where
        go : (r t : ℕ) → r ≤ 4 * t → t ≤ 5152 * (2 ^ 28 * z) → 6 * r ≤ S
        go r t h f = omega (arith, m.large)

    pub room : offset_error B E g X (9 * (n * X)) Y Ey ≤ 2 ^ 24 * reach_mass B X Y
    room = go (offset_error B E g X (9 * (n * X)) Y Ey) (H + X) (reach_mass B X Y) nums.distance nums.least
      where
        go : (e t r : ℕ) → e * 2 ^ k ≤ 2 ^ 27 * ((g + 3) * t) → t ≤ r → e ≤ 2 ^ 24 * r
        go e t r d h = omega (arith, mul-le-mul_left e nums.sharp, mul-le-mul_right t m.glyphs)
