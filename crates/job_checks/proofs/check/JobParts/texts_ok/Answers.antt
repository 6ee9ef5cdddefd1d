-- `job_checks::check::JobParts::texts_ok` meets its contract. Assumes nothing.
use mathlib.Core.Path.{◌∙◌}
use borrow.Author.Rules.{rules}
use Rattle.spec.specs.Decode.{chunk_of}
use Rattle.spec.specs.Check.{text_ok}
use Rattle.job_checks.proofs.Tests.{chunks-test}
use Rattle.job_checks.proofs.check.JobParts.texts_ok.Goals as goal

pub returns : goal.returns
returns c =
    let parts = c.args.self.now in
    c.all_pass.ensures (λ b. text_ok (chunk_of b)) (λ bs b k. search rules) ∙ chunks-test parts.bytes.now text_ok parts.found
