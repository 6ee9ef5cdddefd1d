use mathlib.Core.Path.{sym}
use mathlib.Core.Bool.{false}
use native.Mathlib.Omega.{arith}
use Rattle.decoration.proofs.Runs.{few-ended, runs-few, walked-turn, count-end}
use Rattle.decoration.proofs.count_runs.Goals as goal

pub next_run-o-requires : goal.next_run-o-requires
next_run-o-requires c =
    let l = c.loop-i in
    omega (arith, c.requires, few-ended c.args.span c.args.clusters.now l.i l.o l.invariant)

pub loop-i-preserved : goal.loop-i-preserved
loop-i-preserved c =
    let l = c.loop-i in
    walked-turn c.args.span c.args.clusters.now l.i l.o l.invariant c.next_run-o.result _ (omega arith) c.next_run-o.ensures

pub open_run-last-requires : goal.open_run-last-requires
open_run-last-requires c =
    let l = c.loop-i in
    omega (arith, c.requires, few-ended c.args.span c.args.clusters.now l.i l.o l.invariant)

pub returns : goal.returns
returns c =
    let l = c.loop-i in
    let cs = c.args.clusters.now in
    let counted = count-end c.args.span cs l.i l.o l.invariant c.open_run-last.result (omega arith) 0 false _ c.open_run-last.ensures in
    (sym counted, omega (arith, counted, runs-few c.args.span cs))
