-- The first and the last cluster in text order, what is returned from them, and step 7 from its parts. Assumes nothing.
use Prim.Native.Nat.{ℕ, ◌-◌, ◌<◌}
use native.Mathlib.Omega.{arith}
use mathlib.Core.Path.{◌≡◌, sym, ap, ◌∙◌}
use mathlib.Core.List.{List, foldl}
use lib.ListN.{length, get_or}
use lib.Ieee.{Float}
use Rattle.spec_laws.proofs.All.{all_here}
use Rattle.spec_laws.specs.Unmoved.{ShiftedBy}
use Rattle.spec.specs.declared.Cluster.{Cluster}
use Rattle.spec.specs.Lists.{get_map_or, All}
use Rattle.spec.specs.Single.{◌+ᶠ◌, ◌-ᶠ◌, +0}
use Rattle.spec.specs.Arithmetic.{indexes}
use Rattle.spec.specs.Position.{first_place, last_place, extent_of, process_anchor, past_advance, placed_from, positioned, resolve_relative_shifts, rotate_shifts, mark_relative_shifts}
use Rattle.spec.specs.Cluster.{rounded}
use Rattle.spec.specs.Layout.{resolve_clusters_positions_horizontal}
use Rattle.spec.specs.Job.{Job, Chunk}
use Rattle.position.specs.declared.Extent.{Extent}
use Rattle.position.specs.declared.Positioned.{Positioned}
use Rattle.text_order.specs.Ordered.{Ordered}
use Rattle.text_order.proofs.Keys.{indexes-length}
use Rattle.text_order.proofs.Order.{place_in, place_inside}
use Rattle.position.specs.Given.{EndsKnown, Placed, extent_in, order_of}
use Rattle.position.proofs.TextOrder.{part-at, order-first, order-last, first-place, last-place}

-- the clusters at the places that the first and the last key name
pub ended : {order : List ℕ} {cs : List Cluster} (i j : ℕ) (d : Cluster) → Ordered order cs → 0 < length cs
    → i ≡ place_in order 0 → j ≡ place_in order (length cs - 1) → EndsKnown (get_or cs i d) (get_or cs j d) cs
ended {order} {cs} i j d o h ei ej =
    let first : first_place (order_of cs) ≡ i = first-place o h ∙ sym ei in
    let last : last_place (order_of cs) ≡ j = last-place o (length cs - 1) (omega arith) ∙ sym ej in
    let inside : i < length cs = omega (arith, ei, place_inside o 0 h) in
    let within : j < length cs = omega (arith, ej, place_inside o (length cs - 1) (omega arith)) in
    record {
      some = h;
      first_x = rw first (part-at (λ (c : Cluster). c.x) cs i d inside);
      last_x = rw last (part-at (λ (c : Cluster). c.x) cs j d within);
      last_y = rw last (part-at (λ (c : Cluster). c.y) cs j d within);
    }

-- of clusters that all have one shift, each has those of the first and the last
pub alike-ended : {cs : List Cluster} {x y : Float} (d : Cluster) → All (ShiftedBy x y) cs → 0 < length cs → EndsKnown (get_or cs 0 d) (get_or cs 0 d) cs
alike-ended {cs} {x} {y} d k h =
    let counted = indexes-length cs in
    let some : 0 < length (indexes rounded cs) = omega (arith, counted) in
    let first : first_place (order_of cs) < length cs = omega (arith, counted, order-first (indexes rounded cs) some) in
    let last : last_place (order_of cs) < length cs = omega (arith, counted, order-last (indexes rounded cs) some) in
    let here : (i : ℕ) → i < length cs → ShiftedBy x y (get_or cs i d) = λ i l. all_here i d k l in
    record {
      some = h;
      first_x = part-at (λ (c : Cluster). c.x) cs _ d first ∙ (here _ first).0 ∙ sym (here 0 h).0;
      last_x = part-at (λ (c : Cluster). c.x) cs _ d last ∙ (here _ last).0 ∙ sym (here 0 h).0;
      last_y = part-at (λ (c : Cluster). c.y) cs _ d last ∙ (here _ last).1 ∙ sym (here 0 h).1;
    }

-- ---- what is returned, of clusters cs that have their shifts: their extent e, and the first and the last in text order
module _ (anchor : ℕ) (cs : List Cluster) (e : Extent) (first last : Cluster) (shift end : Float) where
  abbrev start : Float
  start = (first.x -ᶠ e.left) +ᶠ shift

  pub returned : {cs' : List Cluster} → extent_in e ≡ extent_of rounded cs → EndsKnown first last cs
      → shift ≡ process_anchor rounded anchor (e.right -ᶠ e.left)
      → cs' ≡ placed_from rounded start cs → end ≡ foldl (past_advance rounded) start cs
      → Placed (positioned rounded anchor cs) cs' (record { extent = e.right -ᶠ e.left; end_x = end +ᶠ last.x; end_y = last.y })
  unfolding positioned
  returned ee ends es ec en =
      record {
        clusters = ec ∙ ap (λ (p : Float). placed_from rounded p cs) begin;
        extent = width;
        end_x = rw (en, ends.last_x) (ap (λ (p : Float). foldl (past_advance rounded) p cs +ᶠ last.x) begin);
        end_y = sym ends.last_y;
      }
    where
      width : e.right -ᶠ e.left ≡ (positioned rounded anchor cs).extent
      width = rw (← ee)

      begin : start ≡ (get_map_or +0 (λ (c : Cluster). c.x) cs (first_place (order_of cs)) -ᶠ (extent_of rounded cs).left) +ᶠ process_anchor rounded anchor ((extent_of rounded cs).right -ᶠ (extent_of rounded cs).left)
      begin = rw (← ee, ends.first_x, es)

-- ---- step 7: the stages one after the other
pub stages : (job : Job) (offset : ℕ) (chunk : Chunk) (cs : List Cluster) {anchor : ℕ} {shifted turned marked placed : List Cluster} {r : Positioned} → chunk.anchor ≡ anchor
    → shifted ≡ resolve_relative_shifts rounded job chunk.text offset cs → turned ≡ rotate_shifts rounded job.mode shifted → marked ≡ mark_relative_shifts job chunk.text offset turned
    → Placed (positioned rounded anchor marked) placed r → Placed (resolve_clusters_positions_horizontal job offset chunk cs) placed r
unfolding resolve_clusters_positions_horizontal
stages job offset chunk cs {marked = marked} ea es et ek p =
    let e : marked ≡ mark_relative_shifts job chunk.text offset (rotate_shifts rounded job.mode (resolve_relative_shifts rounded job chunk.text offset cs)) = rw (ek, et, es) in
    rw (e, ← ea) at p
