-- `job_checks::values::chunk_ok` meets its contract. Assumes nothing.
use mathlib.Core.Path.{refl}
use borrow.Author.Rules.{rules}
use Rattle.spec.specs.Decode.{parts_of}
use Rattle.spec.specs.Check.{parts_ok}
use Rattle.job_checks.proofs.Tests.{chunk-test}
use Rattle.job_checks.proofs.values.chunk_ok.Goals as goal

pub returns : goal.returns
returns c =
    let a = c.args in
    rw (
      chunk-test a.fonts a.chunk.now,
      ← c.head_at-head.ensures,
      ← c.flagged_ok.ensures,
      ← c.flagged_ok-2.ensures,
      ← c.span_bytes.ensures,
      ← c.all_pass.ensures (λ b. parts_ok a.fonts (parts_of b)) (λ bs b k. search rules),
    )
    refl
