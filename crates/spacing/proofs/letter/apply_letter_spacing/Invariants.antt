-- `spacing::letter::apply_letter_spacing` meets its contract. The loop's invariant: the clusters that are done, and those still to be spaced,
-- are what all will be when spaced. Assumes nothing.
use Prim.Native.Nat.{ℕ, ◌-◌}
use mathlib.Core.Path.{◌≡◌}
use Rattle.spec.specs.Lists.{scan}
use Rattle.spec.specs.declared.Cluster.{Cluster}
use Rattle.spec.specs.Job.{span_at}
use Rattle.spec.specs.Cluster.{rounded}
use Rattle.spec.specs.LetterSpacing.{next_letter_spaced}
use Rattle.spec.proofs.Loops.{halfway}
use Rattle.job_rows.specs.Rows.{spans_in}
use Rattle.spacing.proofs.letter.apply_letter_spacing.Given as goal

abbrev pub less : ℕ → Cluster → ℕ
less left c = left - 1

abbrev pub invariant-loop-i : goal.invariant-loop-i
invariant-loop-i l =
    let step = next_letter_spaced rounded (spans_in l.s l.spans) in
    (halfway less step (l.n - l.i) l.clusters l.i ≡ scan less step l.n l.initial.clusters)
    × (l.kept.letter ≡ (span_at (spans_in l.s l.spans) l.kept.span).letter)
