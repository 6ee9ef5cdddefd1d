-- `spacing::spans::any_spacing` meets its contract. Assumes nothing.
use Rattle.std.proofs.Common.{rules, not, drop, ℕ}
use borrow.Author.Tests.{tests}
use Rattle.std.proofs.lemmas.Iterator.{YieldsList-from_slice}
use Rattle.std.proofs.lemmas.Iterator.Search.{any_from_yields_List}
use lib.Ieee.{ne}
use Rattle.spec.specs.Single.{is_zero}
use Rattle.spec.specs.Decode.{span_of}
use Rattle.spec.specs.declared.Span.{Span}
use Rattle.job_rows.specs.Rows.{spans_in}
use Rattle.spacing.specs.Spans.{spacing_of}
use Rattle.spacing.proofs.Tests.{any-found}
use Rattle.spacing.proofs.spans.any_spacing.Goals as goal

pub returns : goal.returns
unfolding spans_in ne
returns c =
    let a = c.args in
    any-found (λ (p : Span). not (is_zero (spacing_of a.spacing p))) (λ (at : ℕ). span_of (drop at a.s.now)) a.spans.now
    (any_from_yields_List _ _ _ _ c.any.ensures.ran (YieldsList-from_slice a.spans.now cc) (λ x b q k. search (rules, tests)))
