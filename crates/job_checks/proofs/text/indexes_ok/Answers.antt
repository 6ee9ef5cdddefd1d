-- `job_checks::text::indexes_ok` meets its contract. Assumes nothing.
use mathlib.Core.Path.{refl}
use borrow.Author.Rules.{rules}
use Rattle.spec.specs.Decode.{glyph_bytes, glyph_of, parts_of}
use Rattle.job_rows.proofs.Walks.{all-each}
use Rattle.job_checks.specs.Walk.{index_ok}
use Rattle.job_checks.proofs.text.indexes_ok.Goals as goal

pub returns : goal.returns
unfolding parts_of
returns c =
    let text = c.args.text.now in
    rw (
      c.all_pass.ensures (λ b. index_ok text (glyph_of b)) (λ bs b k. search rules),
      c.glyph_count.ensures.0,
      c.tail-glyphs.ensures,
      c.glyphs_at.ensures.0,
      all-each (λ b. glyph_bytes) glyph_of (index_ok text),
    )
    refl
