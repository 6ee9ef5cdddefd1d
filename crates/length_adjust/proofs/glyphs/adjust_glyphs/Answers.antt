-- `length_adjust::glyphs::adjust_glyphs` meets its contract. Assumes nothing.
use mathlib.Core.Path.{sym, ◌∙◌}
use Rattle.std.proofs.Common.{rules}
use Rattle.spec.specs.Single.{◌/ᶠ◌}
use Rattle.spec.specs.ClusterParts.{with_scale}
use Rattle.length_adjust.specs.Marked.{places}
use Rattle.length_adjust.specs.Answer.{adjusted_of}
use Rattle.length_adjust.proofs.Steps.{widths-taken, glyphs-none, glyphs-refused, glyphs-skipped, glyphs-scaled}
use Rattle.length_adjust.proofs.glyphs.adjust_glyphs.Goals as goal

pub returns-then-widths-eq0 : goal.returns-then-widths-eq0
unfolding adjusted_of
returns-then-widths-eq0 c =
    let a = c.args in
    sym (glyphs-none a.span a.clusters.now (places a.marked) (rw c.taken-widths.ensures at c.if-widths-eq0.true))

pub returns-then-flat : goal.returns-then-flat
unfolding adjusted_of
returns-then-flat c =
    let a = c.args in
    sym (glyphs-refused a.span a.clusters.now (places a.marked) (rw c.taken-widths.ensures at c.if-widths-eq0.false) (sym c.all_zero-flat.ensures ∙ c.if-flat.true))

pub returns-then-factor : goal.returns-then-factor
unfolding adjusted_of
returns-then-factor c =
    let a = c.args in
    let at = places a.marked in
    let widths = c.taken-widths.ensures ∙ widths-taken a.span a.clusters.now c.requires.0 at in
    sym (glyphs-skipped a.span a.clusters.now at (rw c.taken-widths.ensures at c.if-widths-eq0.false) (sym c.all_zero-flat.ensures ∙ c.if-flat.false) (rw widths at c.if-factor.true))

pub returns : goal.returns
unfolding adjusted_of
returns c =
    let a = c.args in
    let at = places a.marked in
    let widths = c.taken-widths.ensures ∙ widths-taken a.span a.clusters.now c.requires.0 at in
    let scaled = c.change.ensures (with_scale (a.span.length /ᶠ c.taken-widths.result.sum)) (λ d r p. search rules) in
    rw (scaled, widths)
    (sym (glyphs-scaled a.span a.clusters.now at (rw c.taken-widths.ensures at c.if-widths-eq0.false) (sym c.all_zero-flat.ensures ∙ c.if-flat.false) (rw widths at c.if-factor.false)))
