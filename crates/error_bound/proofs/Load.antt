-- A size beside the fraction that it is: a number of D-ths of a unit. It is far below what a float may hold, being the sum of c sizes of inputs and
-- glyph advances, and it absorbs half a unit or is 0. Assumes nothing.
use Prim.Native.Nat.{ℕ, ◌+◌, ◌*◌, ◌^◌, ◌≤◌}
use mathlib.Core.Path.{◌≡◌, refl, subst₂}
use native.Mathlib.Omega.{arith}
use lib.Ieee.{Float}
use Rattle.float_error.specs.Fraction.{Frac, 0ᵠ, ◌+ᵠ◌, absᵠ, value_of}
use Rattle.float_error.proofs.Units.{unit, size_of}
use Rattle.float_error.proofs.CommonDenominator.{Reads, reads_as, reads-add, reads-zero}
use Rattle.float_error.proofs.Approx.{Absorbs, Absorbs.empty}
use Rattle.float_error.proofs.Quotients.{absorbs-add}
use Rattle.float_error.proofs.Inputs.{Input}
use Rattle.float_error.proofs.Operands.{input-size, input-small, input-absorbs}

pub record Load (D : ℕ) (q : Frac) (m c : ℕ) : Type 0 where
  pub reads : Reads D q m 0
  pub absorbs : Absorbs D m m
  pub small : m ≤ c * (2 ^ 28 * (unit * D))

pub load-zero : (D : ℕ) → Load D 0ᵠ 0 0
load-zero D = record { reads = reads-zero D; absorbs = empty refl; small = omega arith }

pub load-add : {D : ℕ} {q r : Frac} {m n c d : ℕ} → Load D q m c → Load D r n d → Load D (q +ᵠ r) (m + n) (c + d)
load-add {D} {m = m} {n = n} {c = c} {d = d} a b =
    record {
      reads = reads_as (m + n) 0 (omega arith) (reads-add a.reads b.reads);
      absorbs = absorbs-add a.absorbs b.absorbs;
      small = go (2 ^ 28 * (unit * D)) a.small b.small;
    }
  where
    go : (z : ℕ) → m ≤ c * z → n ≤ d * z → m + n ≤ (c + d) * z
    go z h k = omega arith

pub load-input : {x : Float} (D : ℕ) → Input x → Load D (absᵠ (value_of x)) (size_of x * D) 1
load-input D i =
    record { reads = input-size D i; absorbs = input-absorbs D i; small = go (unit * D) (input-small D i) }
  where
    go : {m : ℕ} (z : ℕ) → m ≤ 2 ^ 20 * z → m ≤ 1 * (2 ^ 28 * z)
    go z h = omega arith

pub load-as : {D : ℕ} {q : Frac} {m c n d : ℕ} → m ≡ n → c ≡ d → Load D q m c → Load D q n d
load-as {D} {q} {m} {c} {n} {d} e f l = subst₂ (λ (m c : ℕ). Load D q m c) e f l
