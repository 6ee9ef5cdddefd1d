-- `job_checks::text::text_ok` meets its contract. Assumes nothing.
use mathlib.Core.Path.{refl}
use borrow.Author.Rules.{rules}
use Rattle.spec.specs.Lists.{all}
use Rattle.spec.specs.Decode.{parts_of}
use Rattle.job_checks.specs.Walk.{index_ok}
use Rattle.job_checks.proofs.Tests.{text-test}
use Rattle.job_checks.proofs.text.text_ok.Goals as goal

pub returns : goal.returns
returns c =
    rw (
      text-test c.args.chunk.now,
      ← c.text_of-text.ensures,
      ← c.is_utf8.ensures,
      ← c.span_bytes.ensures,
      ← c.span_count.ensures.0,
      ← c.all_pass.ensures (λ b. all (index_ok c.text_of-text.result.now) (parts_of b).glyphs) (λ bs b k. search rules),
    )
    refl
