-- `position::line::resolve_clusters_positions_horizontal` meets its contract, stage by stage; each keeps the byte indexes, and so the text
-- order. Assumes nothing.
use mathlib.Core.Path.{◌∙◌}
use native.Mathlib.Omega.{arith}
use Rattle.job_rows.specs.Rows.{job_at}
use Rattle.text_order.proofs.Order.{ordered-still}
use Rattle.position.proofs.TextOrder.{numbers-still}
use Rattle.position.proofs.Shifting.{turned-indexes}
use Rattle.position.proofs.Ends.{stages}
use Rattle.position.proofs.line.resolve_clusters_positions_horizontal.Goals as goal

pub positioned-requires : goal.positioned-requires
positioned-requires c = (omega (arith, c.requires.0.some), ordered-still _ c.requires.1 (c.mark_relative_shifts.ensures.0 ∙ turned-indexes c.args.job.mode _ c.rotate_shifts.ensures ∙ c.resolve_relative_shifts.ensures.0))

pub returns : goal.returns
returns c =
    let a = c.args in
    λ offset chunk ea en.
    stages (job_at a.s.now a.job) offset chunk a.clusters.now ea
    (c.resolve_relative_shifts.ensures.1 chunk.text offset en) c.rotate_shifts.ensures
    (c.mark_relative_shifts.ensures.1 chunk.text offset (numbers-still chunk.text offset a.numbers.now a.clusters.now en _ (turned-indexes a.job.mode _ c.rotate_shifts.ensures ∙ c.resolve_relative_shifts.ensures.0))) c.positioned.ensures
