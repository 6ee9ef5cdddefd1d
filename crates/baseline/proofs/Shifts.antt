-- The baseline shifts of a span are added up from the last to the first. Assumes nothing.
use Prim.Native.Nat.{ℕ}
use mathlib.Core.Path.{◌≡◌, refl}
use mathlib.Core.List.{List}
use lib.Ieee.{Float}
use Rattle.baseline.proofs.Backwards.{added}
use Rattle.spec.specs.declared.Font.{Font}
use Rattle.spec.specs.Single.{+0}
use Rattle.spec.specs.Job.{Shift}
use Rattle.spec.specs.Bytes.{rows}
use Rattle.spec.specs.Decode.{shift_bytes, shift_of}
use Rattle.spec.specs.Baseline.{baseline_shift_of, add_baseline_shift, resolve_baseline_shift}

module _ (f : Font) (size : Float) where
  abbrev pub add_shift : Shift → Float → Float
  add_shift s sum = add_baseline_shift f size (baseline_shift_of s) sum

  pub all-added : (n : ℕ) (bs : List ℕ) → added shift_bytes shift_of add_shift n bs +0 ≡ resolve_baseline_shift f size (rows (λ r. shift_bytes) shift_of n bs)
  unfolding resolve_baseline_shift
  all-added n bs = refl
