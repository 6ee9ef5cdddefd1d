use mathlib.Core.Path.{refl}
use native.Mathlib.Omega.{arith}
use Rattle.job_rows.specs.Rows.{job_at}
use Rattle.answer_rows.proofs.SpanRows.{spans-start, spans-room, spans-turn, spans-done}
use Rattle.answer_rows.proofs.spans.put_span_rows.Goals as goal

pub loop-k-init : goal.loop-k-init
loop-k-init c =
    let a = c.args in
    spans-start (job_at a.s.now a.job) a.origin a.clusters.now a.s.now a.spans.now c.requires.2

pub put_span-here-requires : goal.put_span-here-requires
put_span-here-requires c =
    let a = c.args in
    let l = c.loop-k in
    (c.requires.0, spans-room (job_at a.s.now a.job) a.origin a.clusters.now a.s.now a.spans.now l.k l.invariant _ refl (omega arith))

pub loop-k-preserved : goal.loop-k-preserved
loop-k-preserved c =
    let a = c.args in
    let l = c.loop-k in
    spans-turn (job_at a.s.now a.job) a.origin a.clusters.now a.s.now a.spans.now l.k l.invariant _ refl (omega arith) c.put_span-here.ensures

pub returns : goal.returns
returns c =
    let a = c.args in
    let l = c.loop-k in
    spans-done (job_at a.s.now a.job) a.origin a.clusters.now a.s.now a.spans.now l.k l.invariant (omega arith)
