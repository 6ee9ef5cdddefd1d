-- `length_adjust::apply_length_adjust` meets its contract. Assumes nothing.
use native.Mathlib.Omega.{arith}
use lib.ListN.{length}
use lib.Seq.{length-take-le}
use Rattle.text_order.proofs.Order.{ordered-take}
use Rattle.length_adjust.proofs.apply_length_adjust.Goals as goal

pub adjust_spans-requires : goal.adjust_spans-requires
adjust_spans-requires c =
    let a = c.args in
    let n = length a.clusters.now in
    let given = c.requires.1 in
    let keys = length-take-le n a.order.now given.ordered.count in
    let marks = length-take-le n a.taking.now given.marked in
    (c.requires.0, keys, marks, record { ordered = ordered-take given.ordered; marked = omega (arith, marks) })
