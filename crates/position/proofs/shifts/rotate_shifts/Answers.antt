use native.Mathlib.Omega.{arith}
use mathlib.Core.Path.{◌∙◌}
use borrow.Author.Tests.{eq-eqb, ne_eqb}
use lib.ListN.{get_or}
use Rattle.std.proofs.Common.{append-nil}
use Rattle.std.proofs.lemmas.List.{get_or_default, take_all, drop_all}
use Rattle.std.proofs.lemmas.List.Edits.{map_over_more}
use Rattle.spec.specs.Position.{rotate_shift, rotate_shifts}
use Rattle.spec.specs.Cluster.{rounded}
use Rattle.text_order.proofs.Keys.{blank}
use Rattle.position.proofs.shifts.rotate_shifts.Goals as goal

pub loop-c-preserved : goal.loop-c-preserved
unfolding rotate_shift
loop-c-preserved c =
    let l = c.loop-c in
    map_over_more (rotate_shift rounded) c.args.clusters.now l.clusters l.c-index (get_or l.clusters l.c-index blank) (omega arith) l.invariant
    (get_or_default l.clusters l.c-index blank _ (omega arith))

pub returns-after-loop-c : goal.returns-after-loop-c
unfolding rotate_shifts
returns-after-loop-c c =
    let l = c.loop-c in
    let cs = c.args.clusters.now in
    rw (eq-eqb c.args.mode 1 c.if-mode-eq-TOP_TO_BOTTOM.true)
    (l.invariant ∙ rw (take_all l.c-index cs (omega arith), drop_all l.c-index cs (omega arith)) (append-nil _))

pub returns-else-mode-eq-TOP_TO_BOTTOM : goal.returns-else-mode-eq-TOP_TO_BOTTOM
unfolding rotate_shifts
returns-else-mode-eq-TOP_TO_BOTTOM c = rw (ne_eqb c.args.mode 1 c.if-mode-eq-TOP_TO_BOTTOM.false)
