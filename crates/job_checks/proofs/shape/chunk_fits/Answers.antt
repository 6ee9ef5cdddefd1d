-- `job_checks::shape::chunk_fits` meets its contract. Assumes nothing.
use mathlib.Core.Path.{refl}
use borrow.Author.Rules.{rules}
use Rattle.spec.specs.Decode.{span_fits}
use Rattle.job_checks.proofs.Tests.{fit-test}
use Rattle.job_checks.proofs.shape.chunk_fits.Goals as goal

pub returns : goal.returns
returns c =
    rw (
      fit-test c.args.chunk.now,
      ← c.span_count-n.ensures.0,
      ← c.span_bytes.ensures,
      ← c.all_pass-fit.ensures span_fits (λ bs b k. search rules),
      ← c.text_size.ensures.0,
      ← c.spans_at.ensures.0,
    )
    refl
