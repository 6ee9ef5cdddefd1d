-- `wire::write::put_u16` meets its contract. Assumes nothing.
use Prim.Native.Nat.{◌+◌, ◌-◌}
use mathlib.Core.Path.{◌≡◌, ◌∙◌}
use native.Mathlib.Omega.{arith}
use Rattle.spec.specs.Bytes.{bytes}
use Rattle.spec_laws.proofs.Numbers.{length-bytes}
use Rattle.wire.proofs.HighFirst.{two-bytes}
use Rattle.wire.proofs.Splice.{copied}
use Rattle.wire.proofs.write.put_u16.Goals as goal

pub returns : goal.returns
returns c =
    let a = c.args in
    let k : a.at + 2 - a.at ≡ 2 = omega arith in
    let stored = c.copy_from_slice.ensures.after ∙ c.to_be_bytes.ensures ∙ two-bytes a.n in
    rw (k, stored) (copied a.out.now (bytes 2 a.n) a.at 2 (length-bytes 2 a.n))
