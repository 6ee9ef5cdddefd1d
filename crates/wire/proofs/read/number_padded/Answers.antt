-- `wire::read::number_padded` meets its contract. Assumes nothing.
use mathlib.Core.Path.{refl, ap, ◌∙◌}
use native.Mathlib.Omega.{arith}
use Rattle.spec.specs.Bytes.{be}
use Rattle.wire.proofs.Digits.{first_bytes, be-past, none_below}
use Rattle.wire.proofs.Padded.{be-padded}
use Rattle.wire.proofs.read.number_padded.Goals as goal

pub returns-then-s-at : goal.returns-then-s-at
returns-then-s-at c = (be-past c.args.width c.args.at c.args.s.now (omega arith), none_below c.args.width)

pub returns : goal.returns
returns c =
    let width = c.args.width in
    let n = first_bytes width _ _ c.pad.new.out refl refl (omega arith) c.number_of.ensures in
    (n.0 ∙ ap (be width) c.pad.ensures ∙ be-padded 8 _ width 0 (omega arith) ∙ ap (be width) c.tail.ensures, n.1)
