-- `job_checks::values::parts_ok` meets its contract. Assumes nothing.
use mathlib.Core.Path.{refl}
use borrow.Author.Rules.{rules}
use Rattle.spec.specs.Decode.{glyph_of, shift_of}
use Rattle.spec.specs.Check.{glyph_ok, shift_ok}
use Rattle.job_checks.proofs.Tests.{parts-test}
use Rattle.job_checks.proofs.values.parts_ok.Goals as goal

pub returns : goal.returns
returns c =
    let a = c.args in
    rw (
      parts-test a.fonts a.span.now,
      ← c.span_at-head.ensures,
      ← c.glyph_count-n.ensures.0,
      ← c.tail-shifts.ensures,
      ← c.glyphs_at.ensures.0,
      ← c.tail-glyphs.ensures,
      ← c.span_ok.ensures,
      ← c.shift_count.ensures.0,
      ← c.all_pass.ensures (λ b. shift_ok (shift_of b)) (λ bs b k. search rules),
      ← c.all_pass-2.ensures (λ b. glyph_ok a.fonts (glyph_of b)) (λ bs b k. search rules),
    )
    refl
