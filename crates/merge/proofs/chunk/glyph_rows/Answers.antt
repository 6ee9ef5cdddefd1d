-- `merge::chunk::glyph_rows` meets its contract. Assumes nothing.
use mathlib.Core.Path.{◌≡◌, sym, ◌∙◌}
use lib.ListN.{length, drop}
use Rattle.spec.specs.Decode.{parts_of}
use Rattle.merge.proofs.Alone.{glyphs-counted}
use Rattle.merge.proofs.Spans.{own-glyphs}
use native.Mathlib.Omega.{arith}
use Rattle.merge.proofs.chunk.glyph_rows.Goals as goal

pub invariant_of-result : goal.invariant_of-result
invariant_of-result c =
    let a = c.args in
    let n : c.glyph_count.result ≡ length (parts_of (drop a.at a.s.now)).glyphs = c.glyph_count.ensures.0 ∙ rw c.tail-span.ensures (sym (glyphs-counted (drop a.at a.s.now))) in
    record { few = (omega arith, omega (arith, c.requires.1)) }

pub returns : goal.returns
returns c =
    let n = c.glyph_count in
    let k = c.glyphs_at in
    let p = c.clamp in
    let row = c.tail-span in
    let a = c.args in
    own-glyphs a.s.now row.result.now a.at p.result k.result n.result row.ensures p.ensures k.ensures.0 n.ensures.0
