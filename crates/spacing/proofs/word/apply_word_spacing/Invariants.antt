-- `spacing::word::apply_word_spacing` meets its contract. The loop's invariant: the first clusters are spaced. Assumes nothing.
use mathlib.Core.Path.{◌≡◌}
use mathlib.Core.List.{◌++◌, map}
use lib.ListN.{take, drop}
use Rattle.spec.specs.Cluster.{rounded}
use Rattle.spec.specs.WordSpacing.{word_spaced}
use Rattle.job_rows.specs.Rows.{spans_in}
use Rattle.spacing.proofs.word.apply_word_spacing.Given as goal

abbrev pub invariant-loop-c : goal.invariant-loop-c
invariant-loop-c l =
    l.clusters ≡ map (word_spaced rounded l.text (spans_in l.s l.spans)) (take l.c-index l.initial.clusters) ++ drop l.c-index l.initial.clusters
