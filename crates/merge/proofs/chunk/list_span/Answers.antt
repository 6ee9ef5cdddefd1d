-- `merge::chunk::list_span` meets its contract. Assumes nothing.
use mathlib.Core.Path.{◌∙◌}
use lib.ListN.{drop}
use Rattle.spec.specs.Decode.{parts_of}
use Rattle.merge.proofs.Spans.{own-count}
use Rattle.merge.proofs.chunk.list_span.Goals as goal

pub list_rows-requires : goal.list_rows-requires
list_rows-requires c =
    let own = c.glyph_rows-own in
    let a = c.args in
    rw (own-count a.s.now (parts_of (drop a.at a.s.now)) own.result.first own.result.count own.ensures) c.requires.2

pub returns : goal.returns
returns c =
    let listed = c.list_rows in
    let own = c.glyph_rows-own in
    let a = c.args in (
      listed.ensures.0,
      own-count a.s.now (parts_of (drop a.at a.s.now)) own.result.first own.result.count own.ensures,
      listed.ensures.1 a.s.now ∙ own.ensures,
    )
