-- `clustering::spans::chunk_span_at` meets its contract. Assumes nothing.
use Rattle.std.proofs.Common.{rules, drop, ℕ}
use borrow.Author.Tests.{tests}
use Rattle.std.proofs.lemmas.Iterator.{YieldsList-from_slice}
use Rattle.std.proofs.lemmas.Iterator.Search.{position_from_yields_List}
use Rattle.spec.specs.Decode.{span_of}
use Rattle.spec.specs.Merge.{span_contains}
use Rattle.spec.specs.declared.Span.{Span}
use Rattle.job_rows.specs.Rows.{spans_in}
use Rattle.clustering.proofs.Found.{found-map}
use Rattle.clustering.proofs.spans.chunk_span_at.Goals as goal

pub returns : goal.returns
unfolding spans_in
returns c =
    let a = c.args in
    found-map (λ (p : Span). span_contains p a.index) (λ (at : ℕ). span_of (drop at a.s.now)) a.spans.now
    (position_from_yields_List _ _ _ _ c.position.ensures.ran (YieldsList-from_slice a.spans.now cc) (λ x b q k. search (rules, tests)))
