-- Step 7: positions along the line, `resolve_clusters_positions_horizontal` of source document 000. Definitions only.
use Rattle.std.specs.Prelude.{ℕ, suc, ◌+◌, cond, not, ◌||◌, get_or, leb, eqb, Float}
use mathlib.Core.List.{List, [], ◌∷◌, map, foldl}
use Rattle.std.specs.Float.Ieee.{ne}
use Rattle.spec.specs.Lists.{scan, modify, get_map_or}
use Rattle.spec.specs.Single.{+0, is_zero}
use Rattle.spec.specs.Job.{Job, top_to_bottom, anchor_start, anchor_middle}
use Rattle.spec.specs.Utf8.{code_point_at}
use Rattle.spec.specs.Arithmetic.{Arithmetic, least, greatest, indexes}
use Rattle.spec.specs.ClusterParts.{with_marks}
use Rattle.spec.specs.Cluster.{Cluster}

-- ---- text order (the Rust's logical_order), from the byte indexes alone

-- a cluster's byte index, and its place
pub record Entry : Type 0 where
  pub index : ℕ
  pub place : ℕ

unfoldable pub entries : ℕ → List ℕ → List Entry
entries k [] = []
entries k (i ∷ is) = record { index = i; place = k } ∷ entries (suc k) is

-- behind those of its byte index and of smaller ones
unfoldable pub insert : Entry → List Entry → List Entry
insert e [] = e ∷ []
insert e (f ∷ fs) = let rest = insert e fs in cond (leb f.index e.index) (f ∷ rest) (e ∷ f ∷ fs)

-- sorted by byte index; equal ones keep their order
unfoldable pub logical_order : List ℕ → List Entry
logical_order is = foldl (λ (es : List Entry) (e : Entry). insert e es) [] (entries 0 is)

unfoldable pub first_place : List Entry → ℕ
first_place [] = 0
first_place (e ∷ es) = e.place

unfoldable pub last_place : List Entry → ℕ
last_place es = foldl (λ (k : ℕ) (e : Entry). e.place) 0 es

-- the number, in the whole job, of the character at byte index i; `offset` characters come before the chunk
abbrev pub character_number : List ℕ → ℕ → ℕ → ℕ
character_number text offset i = offset + code_point_at text i

-- ---- marks of the rounded layout, from the shifts, before the clusters are placed

-- a relative shift: the shift is not that of the cluster before, or the cluster is rotated, which it is unless its angle is zero
unfoldable pub marked_by : Float → Cluster → Cluster → Cluster
marked_by angle before c =
    let rotated = not (is_zero angle) in
    with_marks (ne c.x before.x || ne c.y before.y || rotated) rotated (cond rotated angle +0) c

-- the angle is that of its character
unfoldable pub marked : Job → List ℕ → ℕ → Cluster → Cluster → Cluster
marked job text offset before c = marked_by (get_or job.rotate (character_number text offset c.index) +0) before c

-- each cluster beside the one before it, the first beside itself
unfoldable pub mark_relative_shifts : Job → List ℕ → ℕ → List Cluster → List Cluster
mark_relative_shifts job text offset [] = []
mark_relative_shifts job text offset (c ∷ cs) = scan (λ (before d : Cluster). d) (marked job text offset) c (c ∷ cs)

-- ---- along the line

-- two sums, and the clusters that have taken them
pub record Shifting (N C : Type 0) : Type 0 where
  pub x : N
  pub y : N
  pub clusters : List C

-- how far the chunk reaches to the left and to the right, and the advances so far
pub record Extent (N : Type 0) : Type 0 where
  pub left : N
  pub right : N
  pub advance : N

-- the clusters placed, the chunk's extent, and the pair that the step returns
pub record Positioned (N C : Type 0) : Type 0 where
  pub clusters : List C
  pub extent : N
  pub end_x : N
  pub end_y : N

module _ (K : Arithmetic) where
  open K use {Num, of_float, zero, ◌⊕◌, ◌⊖◌, halved, minus, less, Cluster, advance, spacing, x, y, with_shift}

  infixl 75 ◌⊕◌ ◌⊖◌
  -- ---- shifts

  -- the next cluster in text order takes the sums, its own dx and dy added
  unfoldable pub shift_next : Job → List ℕ → ℕ → Shifting Num Cluster → Entry → Shifting Num Cluster
  shift_next job text offset st e =
      let cp = character_number text offset e.index in
      let dx = st.x ⊕ of_float (get_or job.dx cp +0) in
      let dy = st.y ⊕ of_float (get_or job.dy cp +0) in
      record { x = dx; y = dy; clusters = modify (with_shift dx dy) st.clusters e.place }

  unfoldable pub resolve_relative_shifts : Job → List ℕ → ℕ → List Cluster → List Cluster
  resolve_relative_shifts job text offset cs =
      (foldl (shift_next job text offset) (record { x = zero; y = zero; clusters = cs }) (logical_order (indexes K cs))).clusters

  -- top to bottom, the text is laid out left to right and turned by 90 degrees afterwards
  unfoldable pub rotate_shift : Cluster → Cluster
  rotate_shift c = with_shift (y c) (minus (x c)) c

  unfoldable pub rotate_shifts : ℕ → List Cluster → List Cluster
  rotate_shifts mode cs = cond (eqb mode top_to_bottom) (map rotate_shift cs) cs

  -- ---- extent

  unfoldable pub extent_next : Extent Num → Cluster → Extent Num
  extent_next e c =
      let start = e.advance ⊕ x c in
      let end = start ⊕ advance c ⊖ spacing c in
      record { left = least K (least K e.left start) end; right = greatest K (greatest K e.right start) end; advance = e.advance ⊕ advance c }

  -- left and right begin at the first cluster's start, where the Rust's infinities come to after one comparison
  abbrev pub extent_of : List Cluster → Extent Num
  extent_of cs =
      let start = zero ⊕ get_map_or zero x cs 0 in
      foldl extent_next (record { left = start; right = start; advance = zero }) cs

  -- ---- anchor

  unfoldable pub process_anchor : ℕ → Num → Num
  process_anchor a w = cond (eqb a anchor_start) zero (cond (eqb a anchor_middle) (halved (minus w)) (minus w))

  -- ---- positions

  abbrev pub past_advance : Num → Cluster → Num
  past_advance p c = p ⊕ advance c

  -- each cluster stands at its shift and the advances before it, from p on
  unfoldable pub placed_from : Num → List Cluster → List Cluster
  placed_from p cs = scan past_advance (λ (q : Num) (c : Cluster). with_shift (q ⊕ x c) (y c) c) p cs

  -- of clusters that have their shifts; first and last are those in text order
  unfoldable pub positioned : ℕ → List Cluster → Positioned Num Cluster
  positioned anchor cs =
      let order = logical_order (indexes K cs) in
      let e = extent_of cs in
      let extent = e.right ⊖ e.left in
      let start = get_map_or zero x cs (first_place order) ⊖ e.left ⊕ process_anchor anchor extent in
      record {
        clusters = placed_from start cs;
        extent = extent;
        end_x = foldl past_advance start cs ⊕ get_map_or zero x cs (last_place order);
        end_y = get_map_or zero y cs (last_place order);
      }
