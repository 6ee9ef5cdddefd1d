-- `wire::write::put_u32` meets its contract. Assumes nothing.
use Prim.Native.Nat.{◌+◌, ◌-◌}
use mathlib.Core.Path.{◌≡◌, ◌∙◌}
use native.Mathlib.Omega.{arith}
use Rattle.spec.specs.Bytes.{bytes}
use Rattle.spec_laws.proofs.Numbers.{length-bytes}
use Rattle.wire.proofs.HighFirst.{four-bytes}
use Rattle.wire.proofs.Splice.{copied}
use Rattle.wire.proofs.write.put_u32.Goals as goal

pub returns : goal.returns
returns c =
    let a = c.args in
    let k : a.at + 4 - a.at ≡ 4 = omega arith in
    let stored = c.copy_from_slice.ensures.after ∙ c.to_be_bytes.ensures ∙ four-bytes a.n in
    rw (k, stored) (copied a.out.now (bytes 4 a.n) a.at 4 (length-bytes 4 a.n))
