use native.Mathlib.Omega.{arith}
use mathlib.Core.Path.{refl, ap, sym}
use lib.ListN.{length}
use borrow.Author.Tests.{le-leb, lt-leb}
use Rattle.clustering.specs.Groups.{clusters_in}
use Rattle.clustering.proofs.Found.{found-some, found-none}
use Rattle.clustering.proofs.FewClusters.{clusters-at-most}
use Rattle.clustering.proofs.LoopSteps.{run_at, groups-start, groups-end, groups-passed, groups-room, groups-turn, groups-all}
use Rattle.clustering.proofs.few.clusters_at_most.Goals as goal

pub returns-then-merged-most : goal.returns-then-merged-most
returns-then-merged-most c =
    let a = c.args in
    let few = clusters-at-most a.s.now a.spans.now a.merged.now in
    sym (le-leb (clusters_in a.s.now a.spans.now a.merged.now) a.most (omega arith))

pub loop-i-init : goal.loop-i-init
loop-i-init c =
    let a = c.args in
    (omega arith, omega (arith, ap length (groups-start a.s.now a.spans.now a.merged.now)))

pub returns-then-n-most : goal.returns-then-n-most
returns-then-n-most c =
    let a = c.args in
    let l = c.loop-i in
    let here = found-some _ _ c.chunk_span_at.result c.is_some.ensures c.if-is_some.true c.chunk_span_at.ensures in
    let more = groups-room a.spans.now (run_at c.run_end-end.ensures c.index_in-index.ensures) (refl, here) l.n l.invariant.1 in
    sym (lt-leb (clusters_in a.s.now a.spans.now a.merged.now) a.most (omega arith))

pub loop-i-preserved-else-n-most : goal.loop-i-preserved-else-n-most
loop-i-preserved-else-n-most c =
    let l = c.loop-i in
    let here = found-some _ _ c.chunk_span_at.result c.is_some.ensures c.if-is_some.true c.chunk_span_at.ensures in
    (omega arith, groups-turn c.args.spans.now (run_at c.run_end-end.ensures c.index_in-index.ensures) (refl, here) l.n l.invariant.1)

pub loop-i-preserved : goal.loop-i-preserved
loop-i-preserved c =
    let l = c.loop-i in
    let none = found-none _ _ c.chunk_span_at.result c.is_some.ensures c.if-is_some.false c.chunk_span_at.ensures in
    (l.invariant.0, rw (groups-passed c.args.spans.now (run_at c.run_end-end.ensures c.index_in-index.ensures) none) at l.invariant.1)

pub returns : goal.returns
returns c =
    let a = c.args in
    let l = c.loop-i in
    let none = groups-end a.s.now a.spans.now a.merged.now l.i (omega arith) in
    let all = groups-all a.s.now a.spans.now a.merged.now l.n l.i l.invariant.1 none in
    sym (le-leb (clusters_in a.s.now a.spans.now a.merged.now) a.most (omega arith))
