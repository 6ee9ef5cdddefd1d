-- `chunk::place::place_clusters` meets its contract: in a still job the clusters are turned and placed, and the laws say that this is step 7, and that
-- any cluster has the shift of the first and the last; else they are put in text order, their characters are numbered, and all of it is done.
-- Assumes nothing.
use Prim.Native.Nat.{ℕ}
use mathlib.Core.Path.{sym, ap, ◌∙◌}
use mathlib.Core.List.{List, map}
use native.Mathlib.Omega.{arith}
use Rattle.spec.specs.Arithmetic.{indexes}
use Rattle.spec.specs.Cluster.{rounded}
use Rattle.spec.specs.Position.{character_number}
use Rattle.text_order.proofs.Order.{ordered-sorted}
use Rattle.chunk.specs.Steps.{chunk_in}
use Rattle.chunk.proofs.Placed.{anchor-is}
use Rattle.chunk.proofs.Still.{still-ended, still_placed}
use Rattle.chunk.proofs.place.place_clusters.Goals as goal

pub positioned_between-requires : goal.positioned_between-requires
positioned_between-requires c = still-ended _ c.requires.unmoved c.rotate_shifts.ensures (omega (arith, c.requires.some, c.rotate_shifts.auto.clusters))

pub returns-then-is_still : goal.returns-then-is_still
returns-then-is_still c =
    let a = c.args in
    still_placed a.s.now a.next c.is_still.ensures c.if-is_still.true c.requires.unmoved c.anchor_at-anchor.ensures c.rotate_shifts.ensures c.positioned_between.ensures

pub character_numbers-requires : goal.character_numbers-requires
character_numbers-requires c =
    let given = c.requires in
    (given.short, omega arith, ordered-sorted given.sortable c.logical_order.auto.order c.logical_order.ensures)

pub resolve_clusters_positions_horizontal-requires : goal.resolve_clusters_positions_horizontal-requires
resolve_clusters_positions_horizontal-requires c =
    let given = c.requires in
    (record { some = given.some; numbered = omega arith }, ordered-sorted given.sortable c.logical_order.auto.order c.logical_order.ensures)

pub returns : goal.returns
returns c =
    let a = c.args in
    c.resolve_clusters_positions_horizontal.ensures a.next.before.offset (chunk_in a.s.now a.next) (anchor-is a.s.now a.next ∙ sym c.anchor_at-anchor.ensures)
    (c.character_numbers.ensures ∙ ap (λ (bytes : List ℕ). map (character_number bytes a.next.before.offset) (indexes rounded a.clusters.now)) c.requires.own)
