-- `job_checks::check::JobParts::is_shaped` meets its contract. Assumes nothing.
use mathlib.Core.Path.{refl}
use borrow.Author.Rules.{rules}
use Rattle.spec.specs.Decode.{chunk_fits}
use Rattle.job_checks.proofs.Tests.{shape-test}
use Rattle.job_checks.proofs.check.JobParts.is_shaped.Goals as goal

pub returns-then-not-counts_fit : goal.returns-then-not-counts_fit
returns-then-not-counts_fit c = rw (shape-test c.args.self.now.bytes.now, ← c.if-not-counts_fit.ensures) refl

pub returns-then-not-all_pass : goal.returns-then-not-all_pass
returns-then-not-all_pass c =
    let parts = c.args.self.now in
    rw (
      shape-test parts.bytes.now,
      ← c.if-not-counts_fit.ensures,
      ← parts.found.count,
      ← parts.found.chunks,
      ← c.if-not-all_pass.ensures chunk_fits (λ bs b k. search rules),
    )
    refl

pub returns : goal.returns
returns c =
    let parts = c.args.self.now in
    rw (
      shape-test parts.bytes.now,
      ← c.if-not-counts_fit.ensures,
      ← parts.found.places,
      ← parts.found.count,
      ← parts.found.chunks,
      ← c.if-not-all_pass.ensures chunk_fits (λ bs b k. search rules),
      ← c.records_size.ensures.0,
    )
    refl
