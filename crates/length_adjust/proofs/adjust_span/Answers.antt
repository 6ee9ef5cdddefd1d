-- `length_adjust::adjust_span` meets its contract. Assumes nothing.
use mathlib.Core.Path.{sym, ap, ◌∙◌}
use native.Mathlib.Omega.{arith}
use Rattle.spec.specs.Outcome.{given}
use Rattle.spec.specs.LengthAdjust.{adjust_glyphs_of}
use Rattle.length_adjust.specs.Answer.{adjusted_of}
use Rattle.length_adjust.proofs.Steps.{span-free, span-spaced, span-scaled, looked-none, looked-some}
use Rattle.length_adjust.proofs.Taking.{order-ascends, order-places, order-found}
use Rattle.length_adjust.proofs.adjust_span.Goals as goal

pub returns-then-span-ne1 : goal.returns-then-span-ne1
unfolding adjusted_of
returns-then-span-ne1 c = let a = c.args in (sym (span-free a.span _ c.if-span-ne1.true), sym (looked-none a.span a.clusters.now c.if-span-ne1.true), omega arith)

pub mark_span-search-requires : goal.mark_span-search-requires
mark_span-search-requires c =
    let given = c.requires in
    (order-ascends given.0 given.2.ordered, rw given.1 (order-places given.0 given.2.ordered))

pub adjust_spacing-requires : goal.adjust_spacing-requires
adjust_spacing-requires c =
    let given = c.requires in
    let search = c.mark_span-search in
    let few = given.2.ordered.few in
    let found = order-found given.0 given.2.ordered c.args.span given.1 search.ensures.0 search.ensures.2 in
    (omega (arith, search.auto.marks), omega (arith, search.auto.marks), found.places)

pub returns-then-span-eq1 : goal.returns-then-span-eq1
returns-then-span-eq1 c =
    let a = c.args in
    let cs = a.clusters.now in
    let f = order-found c.requires.0 c.requires.2.ordered a.span c.requires.1 c.mark_span-search.ensures.0 c.mark_span-search.ensures.2 in (
      c.adjust_glyphs-adjusted.ensures ∙ ap (adjust_glyphs_of a.span cs) f.places ∙ sym (span-scaled a.span cs c.if-span-ne1.false c.if-span-eq1.true),
      f.bytes ∙ sym (looked-some a.span cs c.if-span-ne1.false),
      omega (arith, f.most),
    )

pub returns-else-span-eq1 : goal.returns-else-span-eq1
unfolding adjusted_of
returns-else-span-eq1 c =
    let a = c.args in
    let cs = a.clusters.now in
    let f = order-found c.requires.0 c.requires.2.ordered a.span c.requires.1 c.mark_span-search.ensures.0 c.mark_span-search.ensures.2 in (
      ap given c.adjust_spacing.ensures ∙ sym (span-spaced a.span cs c.if-span-ne1.false c.if-span-eq1.false),
      f.bytes ∙ sym (looked-some a.span cs c.if-span-ne1.false),
      omega (arith, f.most),
    )
