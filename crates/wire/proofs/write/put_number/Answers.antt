use mathlib.Core.Path.{◌≡◌, sym, ◌∙◌}
use Prim.Native.Nat.{◌+◌, ◌-◌}
use native.Mathlib.Omega.{arith}
use Rattle.spec.specs.Bytes.{bytes}
use Rattle.wire.proofs.Splice.{splice-none, bytes-put}
use Rattle.wire.proofs.write.put_number.Goals as goal

pub loop-i-preserved : goal.loop-i-preserved
loop-i-preserved c =
    let l = c.loop-i in
    let e : l.i - 1 + 1 ≡ l.i = omega arith in
    bytes-put l.out c.args.at (l.i - 1) l.rest (omega arith) ∙ (rw e l.invariant)

pub returns : goal.returns
unfolding bytes
returns c =
    let l = c.loop-i in
    let e : l.i ≡ 0 = omega arith in
    sym (splice-none l.out c.args.at) ∙ (rw e at l.invariant)
