-- `merge::glyph::length_at` meets its contract. Assumes nothing.
use mathlib.Core.Path.{◌∙◌}
use borrow.Author.Rules.{rules}
use lib.Seq.{drop-drop}
use Rattle.spec.specs.Decode.{glyph_of}
use Rattle.merge.proofs.glyph.length_at.Goals as goal

pub returns : goal.returns
unfolding glyph_of
returns c =
    let a = c.args in
    (c.u8_at.ensures ∙ (rw (drop-drop 6 a.row a.s.now)), search rules)
