-- Step 7: the offset of each cluster beside the exact one. Of n clusters whose advances have the mass B and the error E together, whose length
-- spacings have Y and Ey and whose shifts have X and Ex, an offset has at most the error
-- 5 Ex + 4 E + 3 Ey + 36 n B + 9 n X + 27 n M + 162 M + 36 X + 9 B, with M = B + X + Y. Assumes nothing.
use Prim.Native.Nat.{ℕ, zero, suc, ◌+◌, ◌*◌, ◌^◌, ◌≤◌}
use mathlib.Core.Path.{◌≡◌, sym, subst}
use mathlib.Core.Bool.{Bool, true, false, cond}
use mathlib.Core.List.{List, map, foldl}
use native.Mathlib.Nat.{le_refl, mul-le-mul_right}
use native.Mathlib.Omega.{arith}
use lib.ListN.{length}
use lib.Dec.{eqb}
use lib.Ieee.{Float, binary32, add}
use Rattle.float_error.specs.Fraction.{Frac, 0ᵠ, ◌+ᵠ◌}
use Rattle.float_error.proofs.Approx.{Scale, Absorbs}
use Rattle.float_error.proofs.Quotients.{track-half}
use Rattle.float_error.proofs.Track.{Track, track-weaken, track-lower, track-add, track-sub, track-neg, track-max, track-min}
use Rattle.float_error.proofs.Operands.{track-zero}
use Rattle.spec.specs.declared.Cluster.{Cluster}
use Rattle.spec.specs.Lists.{get_map_or, scan}
use Rattle.spec.specs.Single.{+0}
use Rattle.spec.specs.Job.{Job, anchor_start, anchor_middle}
use Rattle.spec.specs.Position.{Extent, extent_next, extent_of, process_anchor, placed_from, positioned, first_place, logical_order, marked, marked_by, mark_relative_shifts}
use Rattle.spec.specs.Cluster.{rounded}
use Rattle.spec.specs.Exact.{ExactCluster, exact, AllPairs}
use Rattle.error_bound.proofs.Adjusted.{Cell, sum_of}
use Rattle.error_bound.proofs.Shifts.{Shifted}

-- ---- marks change no number

marked_from : {D S Y Ey X Ex : ℕ} {ks : List Cell} {cs : List Cluster} {qs : List ExactCluster} (job : Job) (text : List ℕ) (offset : ℕ) (before : Cluster) → Shifted D S Y Ey X Ex ks cs qs
    → Shifted D S Y Ey X Ex ks (scan (λ (before c : Cluster). c) (marked job text offset) before cs) qs
unfolding scan marked marked_by
marked_from job text offset before Shifted.nil = Shifted.nil
marked_from job text offset before (Shifted.cons {c = c} b l) =
    Shifted.cons (record { index = b.index; collapsed = b.collapsed; advance = b.advance; spacing = b.spacing; x = b.x; y = b.y }) (marked_from job text offset c l)

pub marked-shifted : {D S Y Ey X Ex : ℕ} {ks : List Cell} {cs : List Cluster} {qs : List ExactCluster} (job : Job) (text : List ℕ) (offset : ℕ) → Shifted D S Y Ey X Ex ks cs qs
    → Shifted D S Y Ey X Ex ks (mark_relative_shifts job text offset cs) qs
unfolding mark_relative_shifts
marked-shifted job text offset Shifted.nil = Shifted.nil
marked-shifted job text offset (Shifted.cons {c = c} b l) = marked_from job text offset c (Shifted.cons b l)

-- ---- positions

-- the mass of a start, an end or an edge
abbrev pub reach_mass : ℕ → ℕ → ℕ → ℕ
reach_mass B X Y = B + X + Y

-- the error of an edge, and of an offset
abbrev pub edge_error : ℕ → ℕ → ℕ → ℕ → ℕ → ℕ → ℕ → ℕ
edge_error B E n X Ex Y Ey = E + 9 * (n * B) + Ex + Ey + 27 * reach_mass B X Y

abbrev pub offset_error : ℕ → ℕ → ℕ → ℕ → ℕ → ℕ → ℕ → ℕ
offset_error B E n X Ex Y Ey =
    5 * Ex + 4 * E + 3 * Ey + 36 * (n * B) + 9 * (n * X) + 27 * (n * reach_mass B X Y) + 162 * reach_mass B X Y + 36 * X + 9 * B

module _ {D S Y Ey X Ex : ℕ} where
  x-at : {ks : List Cell} {cs : List Cluster} {qs : List ExactCluster} → Scale D S → Shifted D S Y Ey X Ex ks cs qs → (i : ℕ) → Track D S 2 (get_map_or +0 rounded.x cs i) (get_map_or 0ᵠ exact.x qs i) X Ex
  unfolding get_map_or
  x-at sc Shifted.nil i = track-zero sc 2 X Ex
  x-at sc (Shifted.cons b l) zero = b.x
  x-at sc (Shifted.cons b l) (suc i) = x-at sc l i

-- ---- the extent

record Edges (D S M El : ℕ) (e : Extent Float) (q : Extent Frac) (b ep : ℕ) : Type 0 where
  left : Track D S 2 e.left q.left M El
  right : Track D S 2 e.right q.right M El
  advance : Track D S 2 e.advance q.advance b ep

-- one turn of the extent, in numbers: b and ep stand for the advances so far, a and e for the cluster's, as', es and m for those behind it
record Turn (S Y Ey X Ex B E n b ep a e as' es m : ℕ) : Type 0 where
  start-mass : b + X ≤ reach_mass B X Y
  start-room : ep + Ex ≤ 2 ^ 24 * reach_mass B X Y
  fits : reach_mass B X Y ≤ S
  past-mass : b + X + a ≤ reach_mass B X Y
  past_room : ep + Ex + 9 * reach_mass B X Y + e ≤ 2 ^ 24 * reach_mass B X Y
  end-mass : b + X + a + Y ≤ reach_mass B X Y
  end-room : ep + Ex + 9 * reach_mass B X Y + e + 9 * reach_mass B X Y + Ey ≤ 2 ^ 24 * reach_mass B X Y
  start-error : ep + Ex + 9 * reach_mass B X Y ≤ edge_error B E n X Ex Y Ey
  end-error : ep + Ex + 9 * reach_mass B X Y + e + 9 * reach_mass B X Y + Ey + 9 * reach_mass B X Y ≤ edge_error B E n X Ex Y Ey
  next-mass : b + a ≤ B
  next-room : ep + e ≤ 2 ^ 24 * B
  next_fits : B ≤ S
  rest-mass : b + a + as' ≤ B
  rest-error : ep + e + 9 * B + es + 9 * (m * B) ≤ E + 9 * (n * B)
  all-mass : b + a + as' ≤ b + (a + as')
  all-error : ep + e + 9 * B + es + 9 * (m * B) ≤ ep + (e + es) + 9 * (suc m * B)

turn : (S Y Ey X Ex B E n b ep a e as' es m : ℕ) → E + 9 * (n * B) ≤ 2 ^ 24 * B → offset_error B E n X Ex Y Ey ≤ 2 ^ 24 * reach_mass B X Y → 6 * reach_mass B X Y ≤ S
    → b + (a + as') ≤ B → ep + (e + es) + 9 * (suc m * B) ≤ E + 9 * (n * B) → Turn S Y Ey X Ex B E n b ep a e as' es m
turn S Y Ey X Ex B E n b ep a e as' es m r₁ r₂ f h k =
    record {
      start-mass = omega arith;
      start-room = omega arith;
      fits = omega arith;
      past-mass = omega arith;
      past_room = omega arith;
      end-mass = omega arith;
      end-room = omega arith;
      start-error = omega arith;
      end-error = omega arith;
      next-mass = omega arith;
      next-room = omega arith;
      next_fits = omega arith;
      rest-mass = omega arith;
      rest-error = omega arith;
      all-mass = omega arith;
      all-error = omega arith;
    }

-- a cluster in its place: its offset has at most the mass m and the error e
pub record Offset (D S m e : ℕ) (c : Cluster) (q : ExactCluster) : Type 0 where
  pub index : c.index ≡ q.group.first.index
  pub collapsed : c.collapsed ≡ q.collapsed
  pub x : Track D S 1 c.x q.x m e

-- one turn of the placing, in numbers: the line has got to the mass b and the error ep, and gets to W and `line` at most
record Move (S M W X Ex line offset b ep a e as' es m : ℕ) : Type 0 where
  mass : b + X ≤ W + X
  all : b + X ≤ 6 * M
  room : ep + Ex ≤ 2 ^ 24 * (W + X)
  fits : W + X ≤ S
  error : ep + Ex + 9 * (W + X) ≤ offset
  next-mass : b + a ≤ W
  next-room : ep + e ≤ 2 ^ 24 * W
  next_fits : W ≤ S
  rest-mass : b + a + as' ≤ W
  rest-error : ep + e + 9 * W + es + 9 * (m * W) ≤ line

move : (S M W X Ex line offset b ep a e as' es m : ℕ) → offset ≤ 2 ^ 24 * M → 6 * M ≤ S → (W + X ≤ 6 * M) × (M ≤ W) → line + Ex + 9 * (W + X) ≤ offset
    → b + (a + as') ≤ W → ep + (e + es) + 9 * (suc m * W) ≤ line → Move S M W X Ex line offset b ep a e as' es m
move S M W X Ex line offset b ep a e as' es m r f w i h k =
    record {
      mass = omega arith;
      all = omega arith;
      room = omega arith;
      fits = omega arith;
      error = omega arith;
      next-mass = omega arith;
      next-room = omega arith;
      next_fits = omega arith;
      rest-mass = omega arith;
      rest-error = omega arith;
    }

module _ {D S : ℕ} (sc : Scale D S) (Y Ey X Ex B E n : ℕ) (room_b : E + 9 * (n * B) ≤ 2 ^ 24 * B) (room_m : offset_error B E n X Ex Y Ey ≤ 2 ^ 24 * reach_mass B X Y) (fits : 6 * reach_mass B X Y ≤ S) where
  abbrev M : ℕ
  M = reach_mass B X Y

  abbrev El : ℕ
  El = edge_error B E n X Ex Y Ey

  edges : {ks : List Cell} {cs : List Cluster} {qs : List ExactCluster} {e : Extent Float} {q : Extent Frac} (b ep : ℕ) → Shifted D S Y Ey X Ex ks cs qs → Edges D S M El e q b ep
      → b + sum_of (λ k. k.a) ks ≤ B → ep + sum_of (λ k. k.e) ks + 9 * (length ks * B) ≤ E + 9 * (n * B)
      → Edges D S M El (foldl (extent_next rounded) e cs) (foldl (extent_next exact) q qs) (b + sum_of (λ k. k.a) ks) (ep + sum_of (λ k. k.e) ks + 9 * (length ks * B))
  unfolding extent_next
  edges b ep Shifted.nil g h k = record { left = g.left; right = g.right; advance = track-weaken _ _ (omega arith) (omega arith) g.advance }
  edges b ep (Shifted.cons {k = k₁} {ks = ks} c l) g h k =
      let t = turn S Y Ey X Ex B E n b ep k₁.a k₁.e (sum_of (λ k. k.a) ks) (sum_of (λ k. k.e) ks) (length ks) room_b room_m fits h k in
      let start = track-add M g.advance c.x t.start-mass t.start-room t.fits in
      let past = track-add M start c.advance t.past-mass t.past_room t.fits in
      let end = track-sub M past c.spacing t.end-mass t.end-room t.fits in
      let start' = track-weaken M El t.start-mass t.start-error start in
      let end' = track-weaken M El t.end-mass t.end-error end in
      let next = track-add B g.advance c.advance t.next-mass t.next-room t.next_fits in
      let rest =
      edges (b + k₁.a) (ep + k₁.e + 9 * B) l
      (record { left = track-min (track-min g.left start') end'; right = track-max (track-max g.right start') end'; advance = next }) t.rest-mass t.rest-error in
      record { left = rest.left; right = rest.right; advance = track-weaken _ _ t.all-mass t.all-error rest.advance }

  -- ---- the anchor, for text as wide as the extent

  anchored : {w : Float} {v : Frac} (a : ℕ) → Absorbs D (M + M) M → Track D S 2 w v (M + M) (El + El + 9 * (2 * M))
      → Track D S 1 (process_anchor rounded a w) (process_anchor exact a v) (M + M) (El + El + 18 * M)
  unfolding process_anchor
  anchored {w} {v} a absorbs t = go (eqb a anchor_start) (eqb a anchor_middle)
    where
      room : (z l : ℕ) → 27 * z ≤ l → offset_error B E n X Ex Y Ey ≤ 2 ^ 24 * z → l + l ≤ offset_error B E n X Ex Y Ey → l + l + 9 * (2 * z) ≤ 2 ^ 24 * (z + z)
      room z l h i j = omega arith

      edge : 27 * M ≤ El
      edge = omega arith

      edges-in : El + El ≤ offset_error B E n X Ex Y Ey
      edges-in = omega arith

      half : (z l : ℕ) → l + l + 9 * (2 * z) + 9 * (z + z) + 2 * z ≤ 2 * (l + 19 * z)
      half z l = omega arith

      wider : (z l : ℕ) → 27 * z ≤ l → l + 19 * z ≤ l + l + 18 * z
      wider z l h = omega arith

      same : (z l : ℕ) → l + l + 9 * (2 * z) ≤ l + l + 18 * z
      same z l = omega arith

      twice : (z : ℕ) → (z + z ≤ 2 * z) × (z ≤ z + z)
      twice z = omega arith

      within : (z : ℕ) → 6 * z ≤ S → z + z ≤ S
      within z h = omega arith

      go : (b c : Bool) → Track D S 1 (cond b rounded.zero (cond c (rounded.halved (rounded.minus w)) (rounded.minus w))) (cond b exact.zero (cond c (exact.halved (exact.minus v)) (exact.minus v))) (M + M) (El + El + 18 * M)
      go true c = track-zero sc 1 (M + M) (El + El + 18 * M)
      go false true =
          track-weaken (M + M) (El + El + 18 * M) (twice M).1 (wider M El edge)
          (track-half 1 M M (El + 19 * M) (track-neg t) (room M El edge room_m edges-in) (within M fits) absorbs (twice M).0 (half M El))
      go false false = track-weaken (M + M) (El + El + 18 * M) (le_refl (M + M)) (same M El) (track-lower 1 2 (track-neg t))

  -- ---- the offsets

  -- where the line begins, and where it ends with all advances behind it
  abbrev line_mass : ℕ
  line_mass = X + M + (M + M)

  abbrev line_error : ℕ
  line_error = Ex + El + 9 * (X + M) + (El + El + 18 * M) + 9 * line_mass

  abbrev end_mass : ℕ
  end_mass = line_mass + B

  abbrev end_error : ℕ
  end_error = line_error + E + 9 * (n * end_mass)

  end-wide : (end_mass + X ≤ 6 * M) × (M ≤ end_mass)
  end-wide = (omega arith, omega arith)

  end-in : end_error + Ex + 9 * (end_mass + X) ≤ offset_error B E n X Ex Y Ey
  end-in = omega arith

  placed : {ks : List Cell} {cs : List Cluster} {qs : List ExactCluster} {p : Float} {v : Frac} (b ep : ℕ) → Shifted D S Y Ey X Ex ks cs qs → Track D S 1 p v b ep
      → b + sum_of (λ k. k.a) ks ≤ end_mass → ep + sum_of (λ k. k.e) ks + 9 * (length ks * end_mass) ≤ end_error
      → AllPairs (Offset D S (6 * M) (offset_error B E n X Ex Y Ey)) (placed_from rounded p cs) (placed_from exact v qs)
  unfolding placed_from scan
  placed b ep Shifted.nil t h k = AllPairs.none
  placed b ep (Shifted.cons {k = k₁} {ks = ks} c l) t h k =
      let u = move S M end_mass X Ex end_error (offset_error B E n X Ex Y Ey) b ep k₁.a k₁.e (sum_of (λ k. k.a) ks) (sum_of (λ k. k.e) ks) (length ks) room_m fits end-wide end-in h k in
      let here = track-add (end_mass + X) t (track-lower 1 2 c.x) u.mass u.room u.fits in
      let next = track-add end_mass t (track-lower 1 2 c.advance) u.next-mass u.next-room u.next_fits in
      AllPairs.more (record { index = c.index; collapsed = c.collapsed; x = track-weaken _ _ u.all u.error here })
      (placed (b + k₁.a) (ep + k₁.e + 9 * end_mass) l next u.rest-mass u.rest-error)

  -- sums of the numbers above, once
  record Sums : Type 0 where
    start-mass : 0 + X ≤ M
    start-room : 0 + Ex ≤ 2 ^ 24 * M
    start_fits : M ≤ S
    start-error : 0 + Ex + 9 * M ≤ El
    width-mass : M + M ≤ 2 * M
    width_room : El + El ≤ 2 ^ 24 * (2 * M)
    width_fits : 2 * M ≤ S
    first-room : Ex + El ≤ 2 ^ 24 * (X + M)
    first_fits : X + M ≤ S
    line-room : Ex + El + 9 * (X + M) + (El + El + 18 * M) ≤ 2 ^ 24 * line_mass
    line-fits : line_mass ≤ S

  sums : Sums
  sums =
      record {
        start-mass = omega arith;
        start-room = omega arith;
        start_fits = omega arith;
        start-error = omega arith;
        width-mass = omega arith;
        width_room = omega arith;
        width_fits = omega arith;
        first-room = omega arith;
        first_fits = omega arith;
        line-room = omega arith;
        line-fits = omega arith;
      }

  -- of all clusters: their advances have at most the mass B and the error E together, and there are at most n of them
  pub offsets : {ks : List Cell} {cs : List Cluster} {qs : List ExactCluster} (anchor : ℕ) → Absorbs D (M + M) M → Shifted D S Y Ey X Ex ks cs qs → map rounded.index cs ≡ map exact.index qs
      → sum_of (λ k. k.a) ks ≤ B → sum_of (λ k. k.e) ks ≤ E → length ks ≤ n
      → AllPairs (Offset D S (6 * M) (offset_error B E n X Ex Y Ey)) (positioned rounded anchor cs).clusters (positioned exact anchor qs).clusters
  unfolding positioned
  offsets {ks} {cs} {qs} anchor absorbs l same h k few =
      subst (λ (is : List ℕ). AllPairs (Offset D S (6 * M) (offset_error B E n X Ex Y Ey)) (placed_from rounded (begin is) cs) (placed_from exact (exact_begin (map exact.index qs)) qs)) (sym same)
      (placed line_mass line_error l line (mass (sum_of (λ k. k.a) ks) h) (error (sum_of (λ k. k.e) ks) (length ks) k (mul-le-mul_right end_mass few)))
    where
      begin : List ℕ → Float
      begin is =
          rounded.◌⊕◌ (rounded.◌⊖◌ (get_map_or +0 rounded.x cs (first_place (logical_order is))) (extent_of rounded cs).left) (process_anchor rounded anchor (rounded.◌⊖◌ (extent_of rounded cs).right (extent_of rounded cs).left))

      exact_begin : List ℕ → Frac
      exact_begin is =
          exact.◌⊕◌ (exact.◌⊖◌ (get_map_or 0ᵠ exact.x qs (first_place (logical_order is))) (extent_of exact qs).left) (process_anchor exact anchor (exact.◌⊖◌ (extent_of exact qs).right (extent_of exact qs).left))

      first : Track D S 2 (add binary32 +0 (get_map_or +0 rounded.x cs 0)) (0ᵠ +ᵠ get_map_or 0ᵠ exact.x qs 0) M El
      first = track-weaken M El sums.start-mass sums.start-error (track-add M (track-zero sc 2 0 0) (x-at sc l 0) sums.start-mass sums.start-room sums.start_fits)

      prefix : (a e c : ℕ) → e ≤ E → c * B ≤ n * B → 0 + e + 9 * (c * B) ≤ E + 9 * (n * B)
      prefix a e c i j = omega arith

      none : (a : ℕ) → a ≤ B → 0 + a ≤ B
      none a i = omega arith

      reach : Edges D S M El (extent_of rounded cs) (extent_of exact qs) (0 + sum_of (λ k. k.a) ks) (0 + sum_of (λ k. k.e) ks + 9 * (length ks * B))
      reach =
          edges 0 0 l (record { left = first; right = first; advance = track-zero sc 2 0 0 }) (none (sum_of (λ k. k.a) ks) h)
          (prefix 0 (sum_of (λ k. k.e) ks) (length ks) k (mul-le-mul_right B few))

      line : Track D S 1 (begin (map exact.index qs)) (exact_begin (map exact.index qs)) line_mass line_error
      line =
          track-add line_mass (track-sub (X + M) (track-lower 1 2 (x-at sc l (first_place (logical_order (map exact.index qs))))) (track-lower 1 2 reach.left) (le_refl (X + M)) sums.first-room sums.first_fits)
          (anchored anchor absorbs (track-sub (2 * M) reach.right reach.left sums.width-mass sums.width_room sums.width_fits)) (le_refl line_mass) sums.line-room sums.line-fits

      mass : (a : ℕ) → a ≤ B → line_mass + a ≤ end_mass
      mass a i = omega arith

      error : (e c : ℕ) → e ≤ E → c * end_mass ≤ n * end_mass → line_error + e + 9 * (c * end_mass) ≤ end_error
      error e c i j = omega arith
