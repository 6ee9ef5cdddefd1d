use mathlib.Core.Path.{refl, sym}
use native.Mathlib.Omega.{arith}
use Rattle.spec.specs.Bytes.{be}
use Rattle.wire.proofs.Digits.{be-step, below_step, below-width}
use Rattle.wire.proofs.read.number_of.Goals as goal

pub loop-byte-init : goal.loop-byte-init
unfolding be
loop-byte-init c = (refl, omega arith)

pub overflow_mul-n : goal.overflow_mul-n
overflow_mul-n c = let l = c.loop-byte in omega (arith, below-width l.n l.byte-index 7 l.invariant.1 (omega arith))

pub overflow_add-n : goal.overflow_add-n
overflow_add-n c =
    let l = c.loop-byte in
    omega (arith, c.type_inv.bytes l.byte-index, below-width l.n l.byte-index 7 l.invariant.1 (omega arith))

pub loop-byte-preserved : goal.loop-byte-preserved
loop-byte-preserved c =
    let l = c.loop-byte in (
      (rw (c.from.ensures, l.invariant.0) (sym (be-step c.args.bytes.now l.byte-index))),
      below_step l.n c.from.result l.byte-index l.invariant.1 (omega (arith, c.type_inv.bytes l.byte-index)),
    )
