-- `job_checks::check::JobParts::lists_ok` meets its contract. Assumes nothing.
use mathlib.Core.Path.{refl}
use Rattle.job_checks.proofs.Tests.{lists-test}
use Rattle.job_checks.proofs.check.JobParts.lists_ok.Goals as goal

pub returns : goal.returns
returns c =
    let parts = c.args.self.now in
    rw (
      lists-test parts.bytes.now,
      ← parts.found.places,
      ← c.tail.ensures,
      ← c.list_ok.ensures,
      ← c.tail-2.ensures,
      ← c.list_ok-2.ensures,
      ← c.tail-3.ensures,
      ← c.list_ok-3.ensures,
    )
    refl
