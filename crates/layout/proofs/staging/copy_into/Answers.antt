-- `layout::staging::copy_into` meets its contract. Assumes nothing.
use mathlib.Core.Path.{◌≡◌, ap}
use mathlib.Core.List.{List, ◌++◌}
use native.Mathlib.Omega.{arith}
use Prim.Native.Nat.{ℕ, ◌+◌, ◌-◌}
use lib.ListN.{length, take}
use lib.Seq.{drop-drop}
use Rattle.wire.specs.Splice.{splice}
use Rattle.layout.proofs.staging.copy_into.Goals as goal

pub returns : goal.returns
unfolding splice
returns c =
    let a = c.args in
    let n : a.at + length a.bytes.now - a.at ≡ length a.bytes.now = omega arith in
    rw (c.copy_from_slice.ensures.after, n)
    (ap (λ (rest : List ℕ). take a.at a.out.now ++ (a.bytes.now ++ rest)) (drop-drop (length a.bytes.now) a.at a.out.now))
