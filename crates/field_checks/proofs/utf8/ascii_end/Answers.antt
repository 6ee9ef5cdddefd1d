-- `field_checks::utf8::ascii_end` meets its contract. Assumes nothing.
use native.Mathlib.Omega.{arith}
use lib.ListN.{length-drop}
use Rattle.std.proofs.lemmas.List.{take_rest}
use Rattle.field_checks.proofs.Skips.{ascii-skips}
use Rattle.field_checks.proofs.utf8.ascii_end.Goals as goal

pub returns : goal.returns
returns c =
    let i = c.blocks_end-i.result in
    let rest = take_rest c.args.text.now i in
    let within = rw (rest, length-drop) at c.ascii_len.ensures.within in
    ascii-skips _ _ i c.ascii_len.result c.blocks_end-i.ensures (omega (arith, within)) (rw rest at c.ascii_len.ensures.ascii)
