-- `job_checks::values::list_ok` meets its contract. Assumes nothing.
use mathlib.Core.Path.{refl}
use borrow.Author.Rules.{rules}
use Rattle.spec.specs.Bytes.{float}
use Rattle.spec.specs.Check.{float_ok}
use Rattle.job_checks.proofs.Tests.{list-test}
use Rattle.job_checks.proofs.values.list_ok.Goals as goal

pub returns : goal.returns
returns c =
    rw (
      list-test c.args.list.now,
      c.all_pass.ensures (λ b. float_ok (float b)) (λ bs b k. search rules),
      c.tail.ensures,
      c.u16_at-n.ensures,
    )
    refl
