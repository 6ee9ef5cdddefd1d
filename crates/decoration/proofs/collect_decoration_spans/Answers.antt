use mathlib.Core.Path.{sym}
use mathlib.Core.Bool.{false}
use native.Mathlib.Omega.{arith}
use Rattle.decoration.proofs.Runs.{few-ended, written_start, room-here, written-turn, count-end, room-last, written-end}
use Rattle.decoration.proofs.collect_decoration_spans.Goals as goal

pub loop-i-init : goal.loop-i-init
loop-i-init c =
    let a = c.args in
    rw c.no_run-o.ensures (written_start a.span a.clusters.now a.out.now a.at)

pub next_run-next-requires : goal.next_run-next-requires
next_run-next-requires c =
    let l = c.loop-i in
    omega (arith, c.requires.0, few-ended c.args.span c.args.clusters.now l.i l.o l.invariant.walked)

pub put_ended-requires : goal.put_ended-requires
put_ended-requires c =
    let l = c.loop-i in
    let a = c.args in
    room-here a.span a.clusters.now a.out.now a.at c.requires.1 l.i l.o l.invariant c.next_run-next.result _ (omega arith) c.next_run-next.ensures

pub loop-i-preserved : goal.loop-i-preserved
loop-i-preserved c =
    let l = c.loop-i in
    let a = c.args in
    written-turn a.span a.clusters.now a.out.now a.at c.requires.1 l.i l.o l.invariant c.next_run-next.result _ (omega arith) c.next_run-next.ensures c.put_ended.ensures

pub open_run-last-requires : goal.open_run-last-requires
open_run-last-requires c =
    let l = c.loop-i in
    omega (arith, c.requires.0, few-ended c.args.span c.args.clusters.now l.i l.o l.invariant.walked)

pub put_ended-requires-2 : goal.put_ended-requires-2
put_ended-requires-2 c =
    let l = c.loop-i in
    let a = c.args in
    room-last a.span a.clusters.now a.out.now a.at c.requires.1 l.i l.o l.invariant c.open_run-last.result (omega arith) 0 false _ c.open_run-last.ensures

pub returns : goal.returns
returns c =
    let l = c.loop-i in
    let a = c.args in
    let last = c.open_run-last.result in (
      sym (count-end a.span a.clusters.now l.i l.o l.invariant.walked last (omega arith) 0 false _ c.open_run-last.ensures),
      written-end a.span a.clusters.now a.out.now a.at c.requires.1 l.i l.o l.invariant last (omega arith) 0 false _ c.open_run-last.ensures c.put_ended-2.ensures,
    )
