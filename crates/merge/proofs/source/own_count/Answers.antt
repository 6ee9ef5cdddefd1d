-- `merge::source::own_count` meets its contract. Assumes nothing.
use mathlib.Core.Path.{sym, ap, ◌∙◌}
use native.Mathlib.Omega.{arith}
use lib.ListN.{length}
use Rattle.spec.specs.Decode.{glyph_count}
use Rattle.merge.proofs.Alone.{glyphs-counted, own-here, own-past}
use Rattle.merge.proofs.source.own_count.Goals as goal

pub returns-then-k-spans : goal.returns-then-k-spans
returns-then-k-spans c =
    let a = c.args in
    let own = own-here a.s.now a.spans.now a.k (omega arith) in
    c.glyph_count.ensures.0 ∙ ap glyph_count c.tail.ensures ∙ sym (glyphs-counted _) ∙ sym (ap length own)

pub returns : goal.returns
returns c =
    let a = c.args in
    sym (ap length (own-past a.s.now a.spans.now a.k (omega arith)))
