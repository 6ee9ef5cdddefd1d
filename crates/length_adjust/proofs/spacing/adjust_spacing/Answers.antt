-- `length_adjust::spacing::adjust_spacing` meets its contract. Assumes nothing.
use native.Mathlib.Omega.{arith}
use Rattle.std.proofs.Common.{rules}
use Rattle.spec.specs.Cluster.{rounded}
use Rattle.spec.specs.LengthAdjust.{stretched_by}
use Rattle.length_adjust.specs.Marked.{places}
use Rattle.length_adjust.proofs.Walks.{marked-few}
use Rattle.length_adjust.proofs.Steps.{spaced-at}
use Rattle.length_adjust.proofs.spacing.adjust_spacing.Goals as goal

pub spacing_factor-factor-requires : goal.spacing_factor-factor-requires
spacing_factor-factor-requires c =
    let a = c.args in
    rw c.taken-total.ensures (omega (arith, marked-few a.marked.within a.marked.marks.now, c.requires))

pub returns : goal.returns
returns c =
    let a = c.args in
    let stretched = c.change.ensures (stretched_by rounded a.span c.spacing_factor-factor.result) (λ d r p. search rules) in
    rw (stretched, c.spacing_factor-factor.ensures, c.taken-total.ensures, spaced-at a.span a.clusters.now (places a.marked) c.requires.2)
