-- `chunk::lengths::adjust_lengths` meets its contract: the clusters are put in text order and adjusted; where no span has a text length, the law says
-- that step 6 leaves them as they are. Assumes nothing.
use native.Mathlib.Omega.{arith}
use Rattle.text_order.proofs.Order.{ordered-sorted}
use Rattle.chunk.proofs.Adjusted.{unadjusted}
use Rattle.chunk.proofs.lengths.adjust_lengths.Goals as goal

pub apply_length_adjust-lengths-requires : goal.apply_length_adjust-lengths-requires
apply_length_adjust-lengths-requires c =
    let given = c.requires in
    (given.few, record { ordered = ordered-sorted given.sortable c.logical_order.auto.order c.logical_order.ensures; marked = omega arith })

pub returns : goal.returns
returns c = unadjusted _ _ c.any_length.ensures c.if-any_length.false
