-- `chunk::sure::is_sure` meets its contract. Assumes nothing.
use mathlib.Core.Path.{◌≡◌}
use native.Mathlib.Omega.{arith}
use lib.ListN.{length, take}
use Rattle.chunk.proofs.Spans.{lent_length}
use Rattle.chunk.proofs.Merging.{own-within}
use Rattle.chunk.proofs.NotRefused.{unsure, sure-is}
use Rattle.chunk.proofs.sure.is_sure.Goals as goal

pub overflow_add-own : goal.overflow_add-own
overflow_add-own c =
    let spans = take c.find_spans-n.result c.find_spans-n.new.places in
    let many : c.find_spans-n.result ≡ length spans = lent_length c.find_spans-n.new.places (omega arith) in
    omega (arith, own-within c.args.s.now spans c.glyph_span-own.ensures, many, c.find_spans-n.ensures.few)

pub returns-then-glyph_span-n : goal.returns-then-glyph_span-n
returns-then-glyph_span-n c =
    let spans = take c.find_spans-n.result c.find_spans-n.new.places in
    let many : c.find_spans-n.result ≡ length spans = lent_length c.find_spans-n.new.places (omega arith) in
    unsure c.args.s.now spans _ c.find_spans-n.ensures.parts c.glyph_span-own.ensures c.glyph_span.ensures (omega (arith, many, c.if-glyph_span-n.true))

pub returns : goal.returns
returns c =
    let spans = take c.find_spans-n.result c.find_spans-n.new.places in
    let many : c.find_spans-n.result ≡ length spans = lent_length c.find_spans-n.new.places (omega arith) in
    sure-is c.args.s.now spans _ c.find_spans-n.ensures.parts c.glyph_span-own.ensures c.glyph_span.ensures (omega (arith, many, c.if-glyph_span-n.false))
    c.any_length.ensures
