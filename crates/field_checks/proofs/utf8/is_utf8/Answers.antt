-- `field_checks::utf8::is_utf8` meets its contract. Assumes nothing.
use mathlib.Core.Path.{sym}
use native.Mathlib.Omega.{arith}
use Rattle.field_checks.proofs.Skips.{two-skips, ascii-skip, at-end}
use Rattle.field_checks.proofs.utf8.is_utf8.Goals as goal

pub loop-i-preserved-then-text-i-lt128 : goal.loop-i-preserved-then-text-i-lt128
loop-i-preserved-then-text-i-lt128 c =
    let l = c.loop-i in
    two-skips (two-skips l.invariant (ascii-skip _ l.i (omega arith) c.if-text-i-lt128.true)) c.ascii_end-i.ensures

pub returns : goal.returns
returns c = sym (at-end c.loop-i.invariant (omega arith))
