use native.Mathlib.Omega.{arith}
use Rattle.std.proofs.lemmas.List.Edits.{map_over_more}
use Rattle.std.proofs.lemmas.List.{get_or_default}
use Rattle.spec.specs.Cluster.{rounded}
use Rattle.spec.specs.WordSpacing.{word_spaced}
use Rattle.job_rows.specs.Rows.{spans_in}
use Rattle.spacing.proofs.word.apply_word_spacing.Goals as goal

pub loop-c-preserved : goal.loop-c-preserved
loop-c-preserved c =
    let l = c.loop-c in
    rw c.word_spaced.ensures
    (map_over_more (word_spaced rounded c.args.text.now (spans_in c.args.s.now c.args.spans.now)) c.args.clusters.now l.clusters l.c-index _ (omega arith) l.invariant (get_or_default l.clusters l.c-index _ _ (omega arith)))
