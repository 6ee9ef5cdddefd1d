-- Divisions by the floats that a layout divides by: 2, and a count. And when half a unit is absorbed. Assumes nothing.
use mathlib.Core.Path.{refl}
use mathlib.Core.Bool.{false}
use Prim.Native.Nat.{ℕ, ◌+◌, ◌*◌, ◌^◌, ◌≤◌, ◌<◌}
use native.Mathlib.Nat.{le_trans}
use native.Mathlib.Omega.{arith}
use lib.IntN.{pos}
use lib.Dec.{lit<}
use lib.Ieee.{Float, binary32, div, of_int, of_bits}
use lib.Ieee.Exact.{HasValue}
use Rattle.float_error.specs.Fraction.{Frac, ◌/ᵠ◌}
use Rattle.float_error.proofs.WholeNumbers.{of_int-exact}
use Rattle.float_error.proofs.Approx.{Absorbs, Absorbs.empty, Absorbs.covered}
use Rattle.float_error.proofs.Track.{Track, track-div}

-- ---- half a unit
pub absorbs-weaken : {D m Q : ℕ} (Q' : ℕ) → Q ≤ Q' → Absorbs D m Q → Absorbs D m Q'
absorbs-weaken Q' h (empty e) = empty e
absorbs-weaken Q' h (covered k) = covered (le_trans k h)

-- masses that absorb it by themselves do so together
pub absorbs-add : {D m n : ℕ} → Absorbs D m m → Absorbs D n n → Absorbs D (m + n) (m + n)
absorbs-add (empty e) (empty f) = empty (omega arith)
absorbs-add (empty e) (covered k) = covered (omega arith)
absorbs-add (covered h) a = covered (omega arith)

-- ---- x / 2
two-exact : HasValue (of_bits binary32 0x40000000) false 2 1
unfolding of_bits
two-exact = (refl, refl)

pub track-half : {D S : ℕ} {x : Float} {q : Frac} {m E : ℕ} (F Q m' E' : ℕ) → Track D S (2 * F) x q m E → E ≤ 2 ^ 24 * m → m ≤ S → Absorbs D m Q
    → m ≤ 2 * m' → E + 9 * m + 2 * Q ≤ 2 * E'
    → Track D S F (div binary32 x (of_bits binary32 0x40000000)) (q /ᵠ 2) m' E'
track-half F Q m' E' t k l o h e = track-div F (of_bits binary32 0x40000000) 2 Q m' E' two-exact (lit< tt) t k l o (omega arith) e

-- ---- x / n
pub track-count : {D S : ℕ} {x : Float} {q : Frac} {m E : ℕ} (F n Q m' E' : ℕ) → 0 < n → n < 2 ^ 24 → Track D S (n * F) x q m E → E ≤ 2 ^ 24 * m
    → m ≤ S → Absorbs D m Q → m < n * m' + n → E + 9 * m + n * Q ≤ n * E'
    → Track D S F (div binary32 x (of_int binary32 (pos n))) (q /ᵠ n) m' E'
track-count F n Q m' E' N h t k l o i e = track-div F (of_int binary32 (pos n)) n Q m' E' (of_int-exact (pos n) h) N t k l o i e
