-- `decoration::put_run` meets its contract. Assumes nothing.
use native.Mathlib.Omega.{arith}
use Rattle.spec.specs.Bytes.{bytes, float_bytes}
use Rattle.spec.specs.Answer.{run_bytes}
use Rattle.spec_laws.proofs.Numbers.{length-bytes, length-float_bytes}
use Rattle.wire.proofs.Splice.{splice-then}
use Rattle.decoration.proofs.put_run.Goals as goal

pub returns : goal.returns
unfolding run_bytes
returns c =
    let a = c.args in
    let r = a.run in
    let n = length-bytes 2 r.first in
    let m = length-float_bytes r.width in
    splice-then a.out.now a.at (bytes 2 r.first) _ (float_bytes r.width) c.put_number.ensures c.put_f32.ensures (omega arith) (omega arith)
