use Prim.Native.Nat.{◌-◌, ◌+◌}
use mathlib.Core.Path.{◌≡◌, sym, ◌∙◌}
use native.Mathlib.Omega.{arith}
use lib.ListN.{length}
use Rattle.spec.specs.Job.{span_at}
use Rattle.spec.specs.Cluster.{rounded}
use Rattle.spec.specs.LetterSpacing.{next_letter_spaced, apply_letter_spacing}
use Rattle.spec.proofs.Loops.{scan-turn, scan-done}
use Rattle.job_rows.specs.Rows.{spans_in}
use Rattle.spacing.proofs.letter.apply_letter_spacing.Invariants.{less}
use Rattle.spacing.proofs.letter.apply_letter_spacing.Goals as goal

pub loop-i-preserved : goal.loop-i-preserved
loop-i-preserved c =
    let a = c.args in
    let l = c.loop-i in
    let spans = spans_in a.s.now a.spans.now in
    let letter = c.next_letter-kept.ensures in
    let own : c.next_letter-kept.result.letter ≡ (span_at spans c.next_letter-kept.result.span).letter = rw letter.0 letter.1 in
    let left : length a.clusters.now - (l.i + 1) ≡ length a.clusters.now - l.i - 1 = omega arith in
    let next = next_letter_spaced rounded spans in (
      rw (left, c.next_letter_spaced.ensures spans letter.1)
          (scan-turn less next (length a.clusters.now - l.i) l.clusters l.i _ (omega arith) ∙ l.invariant.0),
      own,
    )

pub returns : goal.returns
unfolding apply_letter_spacing
returns c =
    let a = c.args in
    let l = c.loop-i in
    let next = next_letter_spaced rounded (spans_in a.s.now a.spans.now) in
    rw (← c.any_spacing.ensures, c.if-not-any_spacing.false) (sym (scan-done less next (length a.clusters.now - l.i) l.clusters l.i (omega arith)) ∙ l.invariant.0)
