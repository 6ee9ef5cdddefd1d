-- `job_checks::check::JobParts::counts_fit` meets its contract. Assumes nothing.
use mathlib.Core.Path.{refl}
use Rattle.job_checks.proofs.Tests.{counts-test}
use Rattle.job_checks.proofs.check.JobParts.counts_fit.Goals as goal

pub returns : goal.returns
returns c =
    let parts = c.args.self.now in
    rw (
      counts-test parts.bytes.now,
      ← parts.found.places,
      ← parts.found.count,
      ← c.tail.ensures,
      ← c.list_fits.ensures,
      ← c.tail-2.ensures,
      ← c.list_fits-2.ensures,
      ← c.tail-3.ensures,
      ← c.list_fits-3.ensures,
    )
    refl
