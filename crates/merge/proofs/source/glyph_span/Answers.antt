-- `merge::source::glyph_span` meets its contract. Assumes nothing.
use Rattle.std.proofs.Common.{rules, drop, ℕ}
use borrow.Author.Tests.{tests}
use lib.Dec.{ltb}
use Rattle.std.proofs.lemmas.Iterator.{YieldsList-from_slice}
use Rattle.std.proofs.lemmas.Iterator.Adapters.{YieldsList-from_skip}
use Rattle.std.proofs.lemmas.Iterator.Search.{position_from_yields_List}
use Rattle.spec.specs.Decode.{glyph_count}
use Rattle.merge.proofs.Alone.{span-found}
use Rattle.merge.proofs.source.glyph_span.Goals as goal

pub returns : goal.returns
returns c =
    let a = c.args in
    span-found a.s.now a.spans.now a.k
    (position_from_yields_List (λ (at : ℕ). ltb 0 (glyph_count (drop at a.s.now))) _ _ _ c.position.ensures.ran
    (YieldsList-from_skip a.k (YieldsList-from_slice a.spans.now cc) c.skip.ensures.count) (λ x b q k. search (rules, tests)))
    c.unwrap_or.ensures c.saturating_sub-rest.ensures
