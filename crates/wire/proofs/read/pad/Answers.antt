use Prim.Native.Nat.{ℕ}
use mathlib.Core.Path.{refl, ◌∙◌, ap₂}
use mathlib.Core.List.{List, [], ◌∷◌, ◌++◌}
use native.Mathlib.Numerals.{add-one}
use native.Mathlib.Omega.{arith}
use lib.Seq.{take-suc-set}
use Rattle.wire.specs.Padded.{padded_of}
use Rattle.wire.proofs.read.pad.Goals as goal

pub loop-i-init : goal.loop-i-init
unfolding padded_of
loop-i-init c = refl

pub loop-i-preserved : goal.loop-i-preserved
unfolding padded_of
loop-i-preserved c =
    let l = c.loop-i in
    rw add-one (take-suc-set l.out l.i c.byte_at.result (omega arith) ∙ ap₂ (λ (p : List ℕ) (b : ℕ). p ++ (b ∷ [])) l.invariant c.byte_at.ensures)
