-- `wire::read::number_within` meets its contract. Assumes nothing.
use mathlib.Core.Path.{refl}
use lib.ListN.{drop, length-drop}
use native.Mathlib.Omega.{arith}
use Rattle.wire.proofs.Digits.{first_bytes}
use Rattle.wire.proofs.read.number_within.Goals as goal

pub returns : goal.returns
returns c =
    let a = c.args in
    first_bytes a.width _ _ (drop a.at a.s.now) refl (omega arith) (simp length-drop (omega arith)) c.number_of.ensures
