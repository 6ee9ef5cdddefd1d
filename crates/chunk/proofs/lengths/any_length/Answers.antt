-- `chunk::lengths::any_length` meets its contract. Assumes nothing.
use Rattle.std.proofs.Common.{rules, drop, ℕ}
use Rattle.std.proofs.lemmas.Iterator.{YieldsList-from_slice}
use Rattle.std.proofs.lemmas.Iterator.Search.{any_from_yields_List}
use Rattle.spec.specs.Decode.{span_of}
use Rattle.job_rows.specs.Rows.{spans_in}
use Rattle.spacing.proofs.Tests.{any-found}
use Rattle.chunk.specs.Sure.{length_asked}
use Rattle.chunk.proofs.lengths.any_length.Goals as goal

pub returns : goal.returns
unfolding spans_in
returns c =
    let a = c.args in
    any-found (length_asked a.stretched) (λ (at : ℕ). span_of (drop at a.s.now)) a.spans.now
    (any_from_yields_List _ _ _ _ c.any.ensures.ran (YieldsList-from_slice a.spans.now cc) (λ x b q k. search rules))
