-- `job_checks::check::JobParts::values_ok` meets its contract. Assumes nothing.
use mathlib.Core.Path.{refl}
use borrow.Author.Rules.{rules}
use Rattle.spec.specs.Decode.{font_of, chunk_of}
use Rattle.spec.specs.Check.{font_ok, chunk_ok}
use Rattle.job_checks.proofs.Tests.{values-test}
use Rattle.job_checks.proofs.check.JobParts.values_ok.Goals as goal

pub returns : goal.returns
returns c =
    let parts = c.args.self.now in
    rw (
      values-test parts.bytes.now,
      ← parts.found.places,
      ← c.tail-rows.ensures,
      ← c.all_pass.ensures (λ b. font_ok (font_of b)) (λ bs b k. search rules),
      ← c.lists_ok.ensures,
      ← parts.found.chunks,
      ← parts.found.count,
      ← c.all_pass-2.ensures (λ b. chunk_ok parts.job.fonts (chunk_of b)) (λ bs b k. search rules),
    )
    refl
