use native.Mathlib.Omega.{arith}
use Rattle.std.proofs.lemmas.List.Edits.{map_over_more}
use Rattle.std.proofs.lemmas.List.{get_or_default}
use Rattle.spec.specs.WritingMode.{vertical_metrics}
use Rattle.spacing.proofs.mode.apply_writing_mode.Goals as goal

pub loop-c-preserved : goal.loop-c-preserved
loop-c-preserved c =
    let l = c.loop-c in
    rw c.vertical_metrics.ensures (map_over_more vertical_metrics c.args.clusters.now l.clusters l.c-index _ (omega arith) l.invariant (get_or_default l.clusters l.c-index _ _ (omega arith)))
