-- Step 7: the shifts, summed in text order and stored by place, beside the exact ones. Assumes nothing.
use Prim.Native.Nat.{ℕ, zero, suc, ◌+◌, ◌*◌, ◌^◌, ◌≤◌}
use mathlib.Core.Path.{◌≡◌, refl, sym, ap, ap₂, ◌∙◌, subst, subst₂}
use mathlib.Core.Bool.{Bool, true, false, cond}
use mathlib.Core.List.{List, [], ◌∷◌, map, foldl}
use native.Mathlib.Nat.{mul-le-mul_right}
use native.Mathlib.Omega.{arith}
use lib.ListN.{length, get_or, length-map}
use lib.Dec.{eqb, leb}
use lib.Ieee.{Float}
use Rattle.float_error.specs.Fraction.{Frac, 0ᵠ}
use Rattle.float_error.proofs.Units.{size_of}
use Rattle.float_error.proofs.Approx.{Scale}
use Rattle.float_error.proofs.Track.{Track, track-weaken, track-add, track-neg}
use Rattle.float_error.proofs.Inputs.{Input, input-zero}
use Rattle.float_error.proofs.Operands.{track-zero, track-input}
use Rattle.spec_laws.proofs.All.{all_get_d}
use Rattle.spec.specs.declared.Font.{Font}
use Rattle.spec.specs.declared.Span.{Span}
use Rattle.spec.specs.declared.Cluster.{Cluster}
use Rattle.spec.specs.Lists.{modify, All}
use Rattle.spec.specs.Single.{+0}
use Rattle.spec.specs.Job.{Job, top_to_bottom}
use Rattle.spec.specs.Position.{Entry, entries, insert, logical_order, character_number, Shifting, shift_next, resolve_relative_shifts, rotate_shift, rotate_shifts}
use Rattle.spec.specs.Cluster.{rounded}
use Rattle.spec.specs.Exact.{ExactCluster, exact}
use Rattle.error_bound.proofs.Adjusted.{Cell, Lined, same-indexes}

-- ---- a cluster with its shift: its length spacing has at most the mass Y and the error Ey, each sum of shifts X and Ex

pub record ShiftedBy (D S Y Ey X Ex : ℕ) (k : Cell) (c : Cluster) (q : ExactCluster) : Type 0 where
  pub index : c.index ≡ q.group.first.index
  pub collapsed : c.collapsed ≡ q.collapsed
  pub advance : Track D S 2 c.advance q.advance k.a k.e
  pub spacing : Track D S 2 c.spacing q.spacing Y Ey
  pub x : Track D S 2 c.x q.x X Ex
  pub y : Track D S 2 c.y q.y X Ex

pub data Shifted (D S Y Ey X Ex : ℕ) : List Cell → List Cluster → List ExactCluster → Type 0 where
  nil : Shifted D S Y Ey X Ex [] [] []
  cons : {k : Cell} {c : Cluster} {q : ExactCluster} {ks : List Cell} {cs : List Cluster} {qs : List ExactCluster} → ShiftedBy D S Y Ey X Ex k c q → Shifted D S Y Ey X Ex ks cs qs
      → Shifted D S Y Ey X Ex (k ∷ ks) (c ∷ cs) (q ∷ qs)

-- before any shift
unshifted : {fonts : List Font} {spans : List Span} {K D S from H U : ℕ} {ks : List Cell} {cs : List Cluster} {qs : List ExactCluster} (X Ex : ℕ) → Scale D S → Lined fonts spans K D S from H U ks cs qs
    → Shifted D S H U X Ex ks cs qs
unshifted X Ex sc Lined.none = nil
unshifted {D = D} {S = S} X Ex sc (Lined.more b l) =
    cons
    (record {
      index = b.index;
      collapsed = b.collapsed;
      advance = b.advance;
      spacing = b.spacing;
      x = subst₂ (λ (x : Float) (y : Frac). Track D S 2 x y X Ex) (sym b.shift_x.0) (sym b.shift_x.1) (track-zero sc 2 X Ex);
      y = subst₂ (λ (x : Float) (y : Frac). Track D S 2 x y X Ex) (sym b.shift_y.0) (sym b.shift_y.1) (track-zero sc 2 X Ex);
    })
    (unshifted X Ex sc l)

shift-at : {D S Y Ey X Ex : ℕ} {ks : List Cell} {cs : List Cluster} {qs : List ExactCluster} {dx dy : Float} {qx qy : Frac} → Track D S 2 dx qx X Ex → Track D S 2 dy qy X Ex
    → Shifted D S Y Ey X Ex ks cs qs → (i : ℕ) → Shifted D S Y Ey X Ex ks (modify (rounded.with_shift dx dy) cs i) (modify (exact.with_shift qx qy) qs i)
unfolding modify
shift-at tx ty nil i = nil
shift-at tx ty (cons b l) zero = cons (record { index = b.index; collapsed = b.collapsed; advance = b.advance; spacing = b.spacing; x = tx; y = ty }) l
shift-at tx ty (cons b l) (suc i) = cons b (shift-at tx ty l i)

-- ---- the sums

-- the sizes of a list's floats at some characters
module _ (D : ℕ) (xs : List Float) (text : List ℕ) (offset : ℕ) where
  abbrev pub float_at : ℕ → Float
  float_at i = get_or xs (character_number text offset i) +0

  abbrev pub shift_mass : List ℕ → ℕ
  shift_mass [] = 0
  shift_mass (i ∷ is) = size_of (float_at i) * D + shift_mass is

abbrev order_of : List Entry → List ℕ
order_of es = map (λ (e : Entry). e.index) es

input-at : {xs : List Float} → All Input xs → (i : ℕ) → Input (get_or xs i +0)
input-at ps i = all_get_d i +0 input-zero ps

module _ {D S Y Ey X Ex : ℕ} (sc : Scale D S) (u : ℕ) (D-even : D ≡ u * 2) (job : Job) (text : List ℕ) (offset : ℕ) (dxs : All Input job.dx) (dys : All Input job.dy) (room : Ex ≤ 2 ^ 24 * X) (fits : X ≤ S) where
  shifts : (es : List Entry) {ks : List Cell} {sf : Shifting Float Cluster} {sq : Shifting Frac ExactCluster} (mx my ex ey : ℕ)
      → Track D S 2 sf.x sq.x mx ex → Track D S 2 sf.y sq.y my ey → mx + shift_mass D job.dx text offset (order_of es) ≤ X → my + shift_mass D job.dy text offset (order_of es) ≤ X
      → ex + 9 * (length es * X) ≤ Ex → ey + 9 * (length es * X) ≤ Ex → Shifted D S Y Ey X Ex ks sf.clusters sq.clusters
      → Shifted D S Y Ey X Ex ks (foldl (shift_next rounded job text offset) sf es).clusters (foldl (shift_next exact job text offset) sq es).clusters
  unfolding shift_next
  shifts [] mx my ex ey tx ty hx hy kx ky l = l
  shifts (e ∷ es) mx my ex ey tx ty hx hy kx ky l =
      let dx = float_at D job.dx text offset e.index in
      let dy = float_at D job.dy text offset e.index in
      let nx = track-add X tx (track-input sc 2 u dx D-even (input-at dxs _)) (omega arith) (omega arith) fits in
      let ny = track-add X ty (track-input sc 2 u dy D-even (input-at dys _)) (omega arith) (omega arith) fits in
      shifts es (mx + size_of dx * D) (my + size_of dy * D) (ex + 0 + 9 * X) (ey + 0 + 9 * X) nx ny (omega arith) (omega arith) (omega arith) (omega arith)
      (shift-at (track-weaken X Ex (omega arith) (omega arith) nx) (track-weaken X Ex (omega arith) (omega arith) ny) l e.place)

-- ---- text order only rearranges

module _ (D : ℕ) (xs : List Float) (text : List ℕ) (offset : ℕ) where
  abbrev mass : List Entry → ℕ
  mass es = shift_mass D xs text offset (order_of es)

  insert-mass : (e : Entry) (es : List Entry) → mass (insert e es) ≡ size_of (float_at D xs text offset e.index) * D + mass es
  unfolding insert
  insert-mass e [] = refl
  insert-mass e (f ∷ fs) = go (leb f.index e.index) (insert-mass e fs)
    where
      go : (b : Bool) → mass (insert e fs) ≡ size_of (float_at D xs text offset e.index) * D + mass fs
          → mass (cond b (f ∷ insert e fs) (e ∷ f ∷ fs)) ≡ size_of (float_at D xs text offset e.index) * D + mass (f ∷ fs)
      go true h = omega arith
      go false h = refl

  fold-mass : (done es : List Entry) → mass (foldl (λ (l : List Entry) (e : Entry). insert e l) done es) ≡ mass done + mass es
  fold-mass done [] = omega arith
  fold-mass done (e ∷ es) = omega (arith, fold-mass (insert e done) es, insert-mass e done)

  entries-mass : (k : ℕ) (is : List ℕ) → mass (entries k is) ≡ shift_mass D xs text offset is
  unfolding entries
  entries-mass k [] = refl
  entries-mass k (i ∷ is) = ap (λ (z : ℕ). size_of (float_at D xs text offset i) * D + z) (entries-mass (suc k) is)

  order-mass : (is : List ℕ) → mass (logical_order is) ≡ shift_mass D xs text offset is
  unfolding logical_order
  order-mass is = fold-mass [] (entries 0 is) ∙ omega (arith, entries-mass 0 is)

insert-length : (e : Entry) (es : List Entry) → length (insert e es) ≡ suc (length es)
unfolding insert
insert-length e [] = refl
insert-length e (f ∷ fs) = go (leb f.index e.index) (insert-length e fs)
  where
    go : (b : Bool) → length (insert e fs) ≡ suc (length fs) → length (cond b (f ∷ insert e fs) (e ∷ f ∷ fs)) ≡ suc (suc (length fs))
    go true h = ap suc h
    go false h = refl

fold-length : (done es : List Entry) → length (foldl (λ (l : List Entry) (e : Entry). insert e l) done es) ≡ length done + length es
fold-length done [] = omega arith
fold-length done (e ∷ es) = omega (arith, fold-length (insert e done) es, insert-length e done)

entries-length : (k : ℕ) (is : List ℕ) → length (entries k is) ≡ length is
unfolding entries
entries-length k [] = refl
entries-length k (i ∷ is) = ap suc (entries-length (suc k) is)

order-length : (is : List ℕ) → length (logical_order is) ≡ length is
unfolding logical_order
order-length is = fold-length [] (entries 0 is) ∙ omega (arith, entries-length 0 is)

-- ---- step 7's shifts, turned top to bottom

turn-all : {D S Y Ey X Ex : ℕ} {ks : List Cell} {cs : List Cluster} {qs : List ExactCluster} → Shifted D S Y Ey X Ex ks cs qs → Shifted D S Y Ey X Ex ks (map (rotate_shift rounded) cs) (map (rotate_shift exact) qs)
unfolding rotate_shift
turn-all nil = nil
turn-all (cons b l) = cons (record { index = b.index; collapsed = b.collapsed; advance = b.advance; spacing = b.spacing; x = b.y; y = track-neg b.x }) (turn-all l)

turned-shifts : {D S Y Ey X Ex : ℕ} {ks : List Cell} {cs : List Cluster} {qs : List ExactCluster} (mode : ℕ) → Shifted D S Y Ey X Ex ks cs qs → Shifted D S Y Ey X Ex ks (rotate_shifts rounded mode cs) (rotate_shifts exact mode qs)
unfolding rotate_shifts
turned-shifts {D} {S} {Y} {Ey} {X} {Ex} {ks} {cs} {qs} mode l = go (eqb mode top_to_bottom)
  where
    go : (b : Bool) → Shifted D S Y Ey X Ex ks (cond b (map (rotate_shift rounded) cs) cs) (cond b (map (rotate_shift exact) qs) qs)
    go true = turn-all l
    go false = l

-- n clusters, and the sizes of their dx and dy together at most X
pub shifted : {fonts : List Font} {spans : List Span} {K D S from H U X : ℕ} {ks : List Cell} {cs : List Cluster} {qs : List ExactCluster} → Scale D S → (u : ℕ) → D ≡ u * 2 → (job : Job) (text : List ℕ) (offset : ℕ)
    → All Input job.dx → All Input job.dy → length qs ≤ 1024 → X ≤ S
    → shift_mass D job.dx text offset (map exact.index qs) + shift_mass D job.dy text offset (map exact.index qs) ≤ X
    → Lined fonts spans K D S from H U ks cs qs
    → Shifted D S H U X (9 * (length qs * X)) ks (rotate_shifts rounded job.mode (resolve_relative_shifts rounded job text offset cs)) (rotate_shifts exact job.mode (resolve_relative_shifts exact job text offset qs))
unfolding resolve_relative_shifts
shifted {D = D} {S = S} {H = H} {U = U} {X = X} {ks = ks} {cs = cs} {qs = qs} sc u even job text offset dxs dys few fits sum l =
    turned-shifts job.mode
    (subst (λ (is : List ℕ). Shifted D S H U X Ex ks (foldl (shift_next rounded job text offset) (record { x = +0; y = +0; clusters = cs }) (logical_order is)).clusters (foldl (shift_next exact job text offset) (record { x = 0ᵠ; y = 0ᵠ; clusters = qs }) order).clusters) (sym (same-indexes l))
    (shifts sc u even job text offset dxs dys (omega (arith, mul-le-mul_right X few)) fits order 0 0 0 0 (track-zero sc 2 0 0) (track-zero sc 2 0 0)
    (omega (arith, order-mass D job.dx text offset (map exact.index qs))) (omega (arith, order-mass D job.dy text offset (map exact.index qs))) steps steps (unshifted X Ex sc l)))
  where
    Ex : ℕ
    Ex = 9 * (length qs * X)

    order : List Entry
    order = logical_order (map exact.index qs)

    steps : 0 + 9 * (length order * X) ≤ Ex
    steps = rw (order-length (map exact.index qs), length-map qs exact.index) (omega arith)

pub shifted-indexes : {D S Y Ey X Ex : ℕ} {ks : List Cell} {cs : List Cluster} {qs : List ExactCluster} → Shifted D S Y Ey X Ex ks cs qs → map rounded.index cs ≡ map exact.index qs
shifted-indexes nil = refl
shifted-indexes (cons b l) = ap₂ ◌∷◌ b.index (shifted-indexes l)
