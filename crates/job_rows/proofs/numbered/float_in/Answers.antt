-- `job_rows::numbered::float_in` meets its contract. Assumes nothing.
use native.Mathlib.Omega.{arith}
use mathlib.Core.Path.{◌∙◌}
use Rattle.spec.specs.Single.{+0}
use Rattle.spec.specs.Bytes.{float}
use Rattle.spec.specs.Decode.{float_size, list_of}
use Rattle.job_rows.proofs.ByNumber.{row_in, row-past}
use Rattle.job_rows.proofs.numbered.float_in.Goals as goal

pub returns-then-i-n : goal.returns-then-i-n
unfolding list_of
returns-then-i-n c =
    let a = c.args in
    c.f32_at.ensures ∙ row_in float_size float _ a.list.now 2 a.i +0 (omega arith)

pub returns : goal.returns
unfolding list_of
returns c = let a = c.args in row-past float_size float _ a.list.now 2 a.i +0 (omega arith)
