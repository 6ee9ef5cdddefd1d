-- In a job whose lists dx, dy and rotate are empty, step 7 turns and places the clusters that steps 2 to 6 give, and shifts and marks none of them.
-- Assumes nothing.
use Prim.Native.Nat.{ℕ, zero, suc}
use mathlib.Core.Path.{◌≡◌, refl, ap}
use mathlib.Core.Bool.{Bool, true, false}
use mathlib.Core.List.{List, [], ◌∷◌, map}
use lib.Dec.{eqb}
use lib.Ieee.{Float, add, neg, eq, ne, of_bits}
use Rattle.spec_laws.proofs.All.{all_map, all-weaken, fold-keeps, cond-keeps}
use Rattle.spec_laws.specs.Unmoved.{ShiftedBy, Unmoved}
use Rattle.spec.specs.Lists.{modify, scan, All}
use Rattle.spec.specs.Single.{◌+ᶠ◌, +0, is_zero}
use Rattle.spec.specs.Job.{Job, Chunk, top_to_bottom}
use Rattle.spec.specs.Arithmetic.{indexes}
use Rattle.spec.specs.Position.{Entry, Shifting, logical_order, shift_next, resolve_relative_shifts, rotate_shift, rotate_shifts, positioned, marked, marked_by, mark_relative_shifts}
use Rattle.spec.specs.ClusterParts.{with_marks}
use Rattle.spec.specs.declared.Cluster.{Cluster}
use Rattle.spec.specs.Cluster.{rounded}
use Rattle.spec.specs.Layout.{resolve_clusters_positions_horizontal}

-- ---- zeros

zero-sum : +0 +ᶠ +0 ≡ +0
unfolding add of_bits
zero-sum = refl

zero_is : is_zero +0 ≡ true
unfolding eq of_bits
zero_is = refl

zero_same : ne +0 +0 ≡ false
unfolding ne eq of_bits
zero_same = refl

minus-same : ne (neg +0) (neg +0) ≡ false
unfolding ne eq neg of_bits
minus-same = refl

-- ---- a cluster set anew as it is

modify-same : (f : Cluster → Cluster) {cs : List Cluster} → All (λ c. f c ≡ c) cs → (i : ℕ) → modify f cs i ≡ cs
unfolding modify
modify-same f All.none i = refl
modify-same f (All.more {xs = cs} e es) zero = ap (λ (d : Cluster). d ∷ cs) e
modify-same f (All.more {x = c} e es) (suc i) = ap (λ (ds : List Cluster). c ∷ ds) (modify-same f es i)

shift_same : (x y : Float) (c : Cluster) → c.x ≡ x → c.y ≡ y → rounded.with_shift x y c ≡ c
shift_same x y c ex ey = rw (← ex, ← ey) refl

marks-same : (relative rotated : Bool) (angle : Float) (c : Cluster) → c.relative ≡ relative → c.rotated ≡ rotated → c.angle ≡ angle → with_marks relative rotated angle c ≡ c
marks-same relative rotated angle c er eo ea = rw (← er, ← eo, ← ea) refl

-- both sums as they begin
abbrev unshifted : List Cluster → Shifting Float Cluster
unshifted cs = record { x = +0; y = +0; clusters = cs }

module _ (job : Job) (text : List ℕ) (offset : ℕ) where
  -- ---- shifts: both sums stay +0

  shift_none : job.dx ≡ [] → job.dy ≡ [] → {cs : List Cluster} → All Unmoved cs → (e : Entry) → shift_next rounded job text offset (unshifted cs) e ≡ unshifted cs
  unfolding shift_next
  shift_none ex ey k e = rw (ex, ey, zero-sum, modify-same _ (all-weaken (λ c h. shift_same +0 +0 c h.0 h.1) k) e.place) refl

  shifts_none : job.dx ≡ [] → job.dy ≡ [] → {cs : List Cluster} → All Unmoved cs → resolve_relative_shifts rounded job text offset cs ≡ cs
  unfolding resolve_relative_shifts
  shifts_none ex ey {cs} k =
      ap (λ (st : Shifting Float Cluster). st.clusters)
      (fold-keeps (λ st. st ≡ unshifted cs) (shift_next rounded job text offset) (λ st e is. rw is (shift_none ex ey k e)) _ refl (logical_order (indexes rounded cs)))

  -- ---- marks: every cluster has the shift of the one before

  module _ (x y : Float) (ex : ne x x ≡ false) (ey : ne y y ≡ false) (er : job.rotate ≡ []) where
    mark-none : (before c : Cluster) → ShiftedBy x y before → ShiftedBy x y c → marked job text offset before c ≡ c
    unfolding marked marked_by
    mark-none before c b h =
        let same-x : ne c.x before.x ≡ false = rw (h.0, b.0) ex in
        let same-y : ne c.y before.y ≡ false = rw (h.1, b.1) ey in
        rw (er, zero_is, same-x, same-y) (marks-same false false +0 c h.3 h.4 h.2)

    marks-after : (before : Cluster) → ShiftedBy x y before → {cs : List Cluster} → All (ShiftedBy x y) cs → scan (λ (before d : Cluster). d) (marked job text offset) before cs ≡ cs
    unfolding scan
    marks-after before b All.none = refl
    marks-after before b (All.more {x = c} h hs) = rw (mark-none before c b h, marks-after c h hs) refl

    marks-none : {cs : List Cluster} → All (ShiftedBy x y) cs → mark_relative_shifts job text offset cs ≡ cs
    unfolding mark_relative_shifts
    marks-none All.none = refl
    marks-none (All.more h hs) = marks-after _ h (All.more h hs)

-- ---- step 7

-- turned, x is +0 and y −0
turned-all : {cs : List Cluster} → All Unmoved cs → All (ShiftedBy +0 (neg +0)) (map (rotate_shift rounded) cs)
unfolding rotate_shift
turned-all k = all_map (ShiftedBy +0 (neg +0)) (rotate_shift rounded) (λ c h. (h.1, ap neg h.0, h.2, h.3, h.4)) k

-- so all have one shift, turned or not
pub turned-alike : (mode : ℕ) {cs : List Cluster} → All Unmoved cs → (y : Float) × All (ShiftedBy +0 y) (rotate_shifts rounded mode cs)
unfolding rotate_shifts
turned-alike mode k = cond-keeps (λ ds. (y : Float) × All (ShiftedBy +0 y) ds) (eqb mode top_to_bottom) (neg +0, turned-all k) (+0, k)

module _ (job : Job) (dx : job.dx ≡ []) (dy : job.dy ≡ []) (rotate : job.rotate ≡ []) where
  marks-turned : (text : List ℕ) (offset : ℕ) {cs : List Cluster} → All Unmoved cs
      → mark_relative_shifts job text offset (rotate_shifts rounded job.mode cs) ≡ rotate_shifts rounded job.mode cs
  unfolding rotate_shifts
  marks-turned text offset k =
      cond-keeps (λ ds. mark_relative_shifts job text offset ds ≡ ds) (eqb job.mode top_to_bottom)
      (marks-none job text offset +0 (neg +0) zero_same minus-same rotate (turned-all k))
      (marks-none job text offset +0 +0 zero_same zero_same rotate k)

  pub unmoved-placed : (offset : ℕ) (c : Chunk) {cs : List Cluster} → All Unmoved cs
      → resolve_clusters_positions_horizontal job offset c cs ≡ positioned rounded c.anchor (rotate_shifts rounded job.mode cs)
  unfolding resolve_clusters_positions_horizontal
  unmoved-placed offset c k = rw (shifts_none job c.text offset dx dy k, marks-turned c.text offset k) refl
