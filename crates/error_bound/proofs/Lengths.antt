-- Step 6 over all spans of a chunk: the masses of the advances add up to at most 3 times that of what they are made of, and their errors to at most
-- 67 g + 159 times that, where g glyphs are counted. Assumes nothing.
use Prim.Native.Nat.{ℕ, zero, suc, ◌+◌, ◌-◌, ◌*◌, ◌^◌, ◌≤◌, ◌<◌}
use mathlib.Core.Path.{◌≡◌, refl, sym, ap, ap₂, ◌∙◌, subst, subst₂}
use mathlib.Core.Bool.{Bool, true, false, not, cond, ◌&&◌}
use mathlib.Core.Logic.{◌⊎◌, inl, inr}
use mathlib.Core.List.{List, [], ◌∷◌, map, foldl}
use native.Mathlib.Nat.{add-zero, add_assoc, le_refl, le_trans, mul-le-mul_right, mul-le-mul_left, mul_assoc, mul_left_comm}
use native.Mathlib.Omega.{arith}
use lib.ListN.{length, length-map}
use lib.Dec.{T, ltb, eqb, leb, leb→le, lt→ltb}
use lib.Ieee.{Float, lt}
use lib.Ieee.Bits.{is_true}
use lib.Ieee.Fits.{and_l, and_r}
use Rattle.float_error.specs.Fraction.{Frac}
use Rattle.float_error.proofs.Units.{unit, size_of}
use Rattle.float_error.proofs.Track.{Track, track-lower}
use Rattle.float_error.proofs.Operands.{track-zero}
use Rattle.spec.specs.declared.Font.{Font}
use Rattle.spec.specs.declared.Span.{Span}
use Rattle.spec.specs.declared.Cluster.{Cluster}
use Rattle.spec.specs.Outcome.{Outcome, refused, given}
use Rattle.spec.specs.Lists.{modify, all, get_map_or, All}
use Rattle.spec.specs.Single.{◌/ᶠ◌, +0, is_zero, thousandth}
use Rattle.spec.specs.Job.{has_length, adjust_spacing_and_glyphs, spreads}
use Rattle.spec.specs.Check.{ordered}
use Rattle.spec.specs.LengthAdjust.{cluster_indexes, sum_at, spacing_factor, taken_of, adjust_spacing_of, width_of, scaled_by, adjust_glyphs_of, adjust_span}
use Rattle.spec.specs.ClusterParts.{with_scale}
use Rattle.spec.specs.Cluster.{rounded}
use Rattle.spec.specs.Exact.{ExactCluster, exact, AllPairs, adjust_span_exactly}
use Rattle.error_bound.proofs.Costs.{spaced_cost, amount_cost, amounts_cost, advances_cost}
use Rattle.error_bound.proofs.Products.{product}
use Rattle.error_bound.proofs.Formed.{Frame}
use Rattle.error_bound.proofs.Spaced.{SpanIn, glyph_part, word_part, Spaced}
use Rattle.error_bound.proofs.Places.{marks_from, marked, pick, at_marks, adjusted-at}
use Rattle.error_bound.proofs.Adjusted.{Cell, sum_of, set, Beside, Lined, Unset, unset, part, cost, set_cell, set-A, set-E, set-B, same-B, parts_below, costs-below, later, set-lined}
use Rattle.error_bound.proofs.Factor.{Factor, factor, float_at, picked-sum}

-- ---- what the advances are made of, and where the spans are

pub record Adjusted (fonts : List Font) (spans : List Span) (K D S g from H B L : ℕ) (is : List ℕ) (cs : List Cluster) (qs : List ExactCluster) : Type 0 where
  pub cells : List Cell
  pub lined : Lined fonts spans K D S from H (amount_cost g * H) cells cs qs
  pub indexes : map exact.index qs ≡ is
  pub counts : All (λ q. length q.group.glyphs ≤ g) qs
  pub bodies : sum_of (λ k. k.B) cells ≡ B
  pub masses : sum_of (set (λ k. k.a)) cells ≤ 3 * (sum_of (set (λ k. k.B)) cells + L)
  pub errors : sum_of (set (λ k. k.e)) cells ≤ advances_cost g * (sum_of (set (λ k. k.B)) cells + L)
  pub few : length cells ≤ g

-- the divisor of a span's text length: the clusters that take part, less 1
unfoldable pub divisor : List ℕ → Span → ℕ
divisor is s = let n = marked (marks_from s [] is) in cond (spreads s && ltb 1 n) (n - 1) 1

-- a step that is not refused gives its value
not-refused : {A : Type 0} (b : Bool) (n : ℕ) (x y : A) → cond b (refused n) (given x) ≡ given y → x ≡ y
not-refused true n x y e = let z : ◌≡◌ {A = ℕ} 0 1 = cc in absurd (omega arith)
not-refused false n x y e = cc

-- ---- scaling changes neither width nor advance

module _ {fonts : List Font} {spans : List Span} {K D S from H U : ℕ} where
  scale_one : {k : Cell} {c : Cluster} {q : ExactCluster} (f : Float) → Beside fonts spans K D S from H U k c q → Beside fonts spans K D S from H U k (with_scale f c) q
  scale_one f b =
      record {
        group = b.group;
        glyphs = b.glyphs;
        body = b.body;
        index = b.index;
        collapsed = b.collapsed;
        width = b.width;
        advance = b.advance;
        spacing = b.spacing;
        shift_x = b.shift_x;
        shift_y = b.shift_y;
        fresh = b.fresh;
        past = b.past;
      }

  scale_at : {ks : List Cell} {cs : List Cluster} {qs : List ExactCluster} (f : Float) → Lined fonts spans K D S from H U ks cs qs → (i : ℕ)
      → Lined fonts spans K D S from H U ks (modify (with_scale f) cs i) qs
  unfolding modify
  scale_at f Lined.none i = Lined.none
  scale_at f (Lined.more b l) zero = Lined.more (scale_one f b) l
  scale_at f (Lined.more b l) (suc i) = Lined.more b (scale_at f l i)

  scale-all : {ks : List Cell} {cs : List Cluster} {qs : List ExactCluster} (f : Float) → Lined fonts spans K D S from H U ks cs qs → (is : List ℕ)
      → Lined fonts spans K D S from H U ks (foldl (modify (with_scale f)) cs is) qs
  scale-all f l [] = l
  scale-all {cs = cs} f l (i ∷ is) = scale-all {cs = modify (with_scale f) cs i} f (scale_at f l i) is

  scaled : {ks : List Cell} {cs : List Cluster} {qs : List ExactCluster} (f : Float) → Lined fonts spans K D S from H U ks cs qs → (is : List ℕ)
      → Lined fonts spans K D S from H U ks (scaled_by f cs is) qs
  unfolding scaled_by
  scaled {ks} {cs} {qs} f l is = go (lt f thousandth)
    where
      go : (b : Bool) → Lined fonts spans K D S from H U ks (cond b cs (foldl (modify (with_scale f)) cs is)) qs
      go true = l
      go false = scale-all f l is

  glyphs-adjusted : {ks : List Cell} {cs : List Cluster} {qs : List ExactCluster} (s : Span) → Lined fonts spans K D S from H U ks cs qs → (is : List ℕ) (ds : List Cluster)
      → adjust_glyphs_of s cs is ≡ given ds → Lined fonts spans K D S from H U ks ds qs
  unfolding adjust_glyphs_of
  glyphs-adjusted {ks} {cs} {qs} s l [] ds e = subst (λ (ds : List Cluster). Lined fonts spans K D S from H U ks ds qs) (cc) l
  glyphs-adjusted {ks} {cs} {qs} s l (i ∷ is) ds e =
      subst (λ (ds : List Cluster). Lined fonts spans K D S from H U ks ds qs) (not-refused (all (λ (k : ℕ). is_zero (get_map_or +0 width_of cs k)) (i ∷ is)) 9 _ ds e)
      (scaled (s.length /ᶠ sum_at rounded width_of cs (i ∷ is)) l (i ∷ is))

-- ---- a span

indexes-at : (f : ExactCluster → ExactCluster) → ((q : ExactCluster) → exact.index (f q) ≡ exact.index q) → (bs : List Bool) (qs : List ExactCluster) → map exact.index (at_marks f bs qs) ≡ map exact.index qs
indexes-at f h [] qs = refl
indexes-at f h (b ∷ bs) [] = refl
indexes-at f h (true ∷ bs) (q ∷ qs) = ap₂ ◌∷◌ (h q) (indexes-at f h bs qs)
indexes-at f h (false ∷ bs) (q ∷ qs) = ap (λ (l : List ℕ). q.group.first.index ∷ l) (indexes-at f h bs qs)

counts-at : {P : ExactCluster → Type 0} (f : ExactCluster → ExactCluster) → ((q : ExactCluster) → P q → P (f q)) → (bs : List Bool) {qs : List ExactCluster} → All P qs → All P (at_marks f bs qs)
counts-at f h [] ps = ps
counts-at f h (b ∷ bs) All.none = All.none
counts-at f h (true ∷ bs) (All.more p ps) = All.more (h _ p) (counts-at f h bs ps)
counts-at f h (false ∷ bs) (All.more p ps) = All.more p (counts-at f h bs ps)

length_at : {C : Type 0} (f : C → C) (bs : List Bool) (cs : List C) → length (at_marks f bs cs) ≡ length cs
length_at f [] cs = refl
length_at f (b ∷ bs) [] = refl
length_at f (b ∷ bs) (c ∷ cs) = ap suc (length_at f bs cs)

module _ {fonts : List Font} {spans : List Span} {K D S g : ℕ} (frame : Frame fonts K D S) (g-few : g ≤ 1024) {from H B L : ℕ} {is : List ℕ} {cs : List Cluster} {qs : List ExactCluster} (s : Span) (ins : SpanIn s) (a : Adjusted fonts spans K D S g from H B L is cs qs)
    (before : from ≤ s.start) (order : s.start ≤ s.end) (within : B + (L + size_of s.length * D) ≤ H) (H-small : H ≤ 2 ^ 48 * (unit * D)) where
  abbrev len : ℕ
  len = size_of s.length * D

  -- where no advance changes
  untouched : (ds : List Cluster) → Lined fonts spans K D S from H (amount_cost g * H) a.cells ds qs → Adjusted fonts spans K D S g s.end H B (L + len) is ds qs
  untouched ds l =
      record {
        cells = a.cells;
        lined = later s.end (omega arith) l;
        indexes = a.indexes;
        counts = a.counts;
        bodies = a.bodies;
        masses = omega (arith, a.masses);
        errors = go _ _ (advances_cost g) a.errors;
        few = a.few;
      }
    where
      go : (z d c : ℕ) → z ≤ c * (d + L) → z ≤ c * (d + (L + len))
      go z d c h = omega arith

  abbrev marks : List Bool
  marks = marks_from s [] (map exact.index qs)

  -- the masses of the clusters that take part: of what is brought to the length, and of all that they are made of
  abbrev taken : ℕ
  taken = sum_of (part s) (pick marks a.cells)

  abbrev bodies : ℕ
  bodies = sum_of (λ k. k.B) (pick marks a.cells)

  none-set : Unset marks a.cells
  none-set = unset s [] a.lined before

  some : len + taken ≤ H
  some = omega (arith, parts_below frame s none-set a.lined, picked-sum (λ k. k.B) none-set, a.bodies)

  room : len + taken ≤ S
  room = go (unit * D) some H-small frame.scale.large
    where
      go : (z : ℕ) → len + taken ≤ H → H ≤ 2 ^ 48 * z → 2 ^ 50 * z ≤ S → len + taken ≤ S
      go z h i j = omega arith

  spread : (K' : ℕ) → (1 < marked (marks_from s [] is) → K ≡ (marked (marks_from s [] is) - 1) * K')
      → Adjusted fonts spans K D S g s.end H B (L + len) is (adjust_spacing_of rounded s cs) (adjust_spacing_of exact s qs)
  spread K' e =
      subst₂ (λ (ds : List Cluster) (rs : List ExactCluster). Adjusted fonts spans K D S g s.end H B (L + len) is ds rs)
      (sym (float_at frame s ins.length a.lined before a.counts a.few g-few)) (sym (adjusted-at exact s qs))
      (record {
        cells = at_marks (set_cell s x.f x.E) marks a.cells;
        lined = set-lined frame s x.track (le_trans x.mass some) (le_trans x.error (mul-le-mul_left (amount_cost g) some)) x.room H-small before order [] a.lined;
        indexes = indexes-at _ (λ q. refl) marks qs ∙ a.indexes;
        counts = counts-at _ (λ q h. h) marks a.counts;
        bodies = same-B s x.f x.E none-set ∙ a.bodies;
        masses = rw (set-A s x.f x.E none-set, set-B s x.f x.E none-set) (mass-bound _ _ taken bodies _ a.masses (parts_below frame s none-set a.lined) x.total);
        errors =
            rw (set-E s x.f x.E none-set, set-B s x.f x.E none-set)
            (error-bound (marked marks) x.f x.E taken bodies (sum_of (cost s) (pick marks a.cells)) _ _ a.errors (parts_below frame s none-set a.lined) (costs-below frame s g none-set a.counts a.lined) x.total x.errors x.two);
        few = subst (λ (n : ℕ). n ≤ g) (sym (length_at (set_cell s x.f x.E) marks a.cells)) a.few;
      })
    where
      x : Factor D S g (len + taken) (marked marks)
          (spacing_factor rounded s.length (foldl (λ (w : Float) (c : Cluster). rounded.◌⊕◌ w (taken_of rounded s c)) rounded.zero (pick marks cs)) (marked marks))
          (spacing_factor exact s.length (foldl (λ (w : Frac) (q : ExactCluster). exact.◌⊕◌ w (taken_of exact s q)) exact.zero (pick marks qs)) (marked marks))
      x = factor frame s ins.length a.lined before a.counts a.few g-few K' (subst (λ (is : List ℕ). 1 < marked (marks_from s [] is) → K ≡ (marked (marks_from s [] is) - 1) * K') (sym a.indexes) e) room

      mass-bound : (sa sb A Bp nf : ℕ) → sa ≤ 3 * (sb + L) → A ≤ Bp → nf ≤ 2 * (len + A) → sa + (A + nf) ≤ 3 * (sb + Bp + (L + len))
      mass-bound sa sb A Bp nf h i j = omega arith

      error-bound : (n f E A Bp D se sb : ℕ) → se ≤ advances_cost g * (sb + L) → A ≤ Bp → D ≤ spaced_cost g * A → n * f ≤ 2 * (len + A) → n * E ≤ amounts_cost g * (len + A) → (E ≡ 0) ⊎ (2 ≤ g)
          → se + (D + 9 * A + n * (E + 9 * f)) ≤ advances_cost g * (sb + Bp + (L + len))
      error-bound n f E A Bp D se sb h i d j k (inl z) = omega (arith, mul-le-mul_left g i, ap (λ (m : ℕ). n * m) z)
      error-bound n f E A Bp D se sb h i d j k (inr z) = omega (arith, mul-le-mul_left g i, mul-le-mul_right (len + A) z)

  -- the span, whatever it asks for; K' is what K has beyond its divisor
  step : (K' : ℕ) → K ≡ divisor is s * K' → (ds : List Cluster) → adjust_span (given cs) s ≡ given ds
      → Adjusted fonts spans K D S g s.end H B (L + len) is ds (adjust_span_exactly qs s)
  unfolding divisor adjust_span adjust_span_exactly
  step K' k ds e = go (has_length s) (eqb s.adjust adjust_spacing_and_glyphs) e k
    where
      n : ℕ
      n = marked (marks_from s [] is)

      go : (h p : Bool) → cond h (cond p (adjust_glyphs_of s cs (cluster_indexes rounded s cs)) (given (adjust_spacing_of rounded s cs))) (given cs) ≡ given ds
          → K ≡ cond (h && not p && ltb 1 n) (n - 1) 1 * K'
          → Adjusted fonts spans K D S g s.end H B (L + len) is ds (cond (h && not p) (adjust_spacing_of exact s qs) qs)
      go true false e k =
          subst (λ (ds : List Cluster). Adjusted fonts spans K D S g s.end H B (L + len) is ds (adjust_spacing_of exact s qs)) (cc)
          (spread K' (λ some. rw (is_true (ltb 1 n) (lt→ltb 1 n some)) at k))
      go true true e k = untouched ds (glyphs-adjusted s a.lined (cluster_indexes rounded s cs) ds e)
      go false true e k = untouched ds (subst (λ (ds : List Cluster). Lined fonts spans K D S from H (amount_cost g * H) a.cells ds qs) (cc) a.lined)
      go false false e k = untouched ds (subst (λ (ds : List Cluster). Lined fonts spans K D S from H (amount_cost g * H) a.cells ds qs) (cc) a.lined)

-- ---- all spans

abbrev pub lengths_mass : ℕ → List Span → ℕ
lengths_mass D [] = 0
lengths_mass D (s ∷ ss) = size_of s.length * D + lengths_mass D ss

refused-stays : (n : ℕ) (ss : List Span) → foldl adjust_span (refused n) ss ≡ refused n
unfolding adjust_span
refused-stays n [] = refl
refused-stays n (s ∷ ss) = refused-stays n ss

module _ {fonts : List Font} {spans : List Span} {K D S g : ℕ} (frame : Frame fonts K D S) (g-few : g ≤ 1024) {H B : ℕ} {is : List ℕ} (H-small : H ≤ 2 ^ 48 * (unit * D)) (n : ℕ) where
  pub all-spans : {from L : ℕ} {cs : List Cluster} {qs : List ExactCluster} (ss : List Span) → All SpanIn ss → T (ordered n from ss) → (P : ℕ) → K ≡ P * product (map (divisor is) ss)
      → B + (L + lengths_mass D ss) ≤ H → Adjusted fonts spans K D S g from H B L is cs qs → (ds : List Cluster) → foldl adjust_span (given cs) ss ≡ given ds
      → (to : ℕ) × Adjusted fonts spans K D S g to H B (L + lengths_mass D ss) is ds (foldl adjust_span_exactly qs ss)
  unfolding ordered
  all-spans {from} {L} {cs} {qs} [] i o P k w a ds e =
      (from, subst₂ (λ (l : ℕ) (ds : List Cluster). Adjusted fonts spans K D S g from H B l is ds qs) (sym (add-zero L)) (cc) a)
  all-spans {from} {L} {cs} {qs} (s ∷ ss) (All.more i is') o P k w a ds e =
      go (adjust_span (given cs) s) refl e
      (λ ds' a'. all-spans {from = s.end} ss is' (and_r (leb from s.start && leb s.start s.end && leb s.end n) (ordered n s.end ss) o) (P * divisor is s) (k ∙ sym (mul_assoc P (divisor is s) (product (map (divisor is) ss)))) (omega arith) a' ds)
    where
      len : ℕ
      len = size_of s.length * D

      Done : ℕ → Type 0
      Done l = (to : ℕ) × Adjusted fonts spans K D S g to H B l is ds (foldl adjust_span_exactly (adjust_span_exactly qs s) ss)

      first : T (leb from s.start && leb s.start s.end)
      first = and_l (leb from s.start && leb s.start s.end) (leb s.end n) (and_l (leb from s.start && leb s.start s.end && leb s.end n) (ordered n s.end ss) o)

      go : (r : Outcome (List Cluster)) → adjust_span (given cs) s ≡ r → foldl adjust_span r ss ≡ given ds
          → ((ds' : List Cluster) → Adjusted fonts spans K D S g s.end H B (L + len) is ds' (adjust_span_exactly qs s) → foldl adjust_span (given ds') ss ≡ given ds → Done (L + len + lengths_mass D ss))
          → Done (L + (len + lengths_mass D ss))
      go (refused m) h e' rec = let z : ◌≡◌ {A = ℕ} 0 1 = cc (refused-stays m ss) in absurd (omega arith)
      go (given ds') h e' rec =
          subst Done (add_assoc L len (lengths_mass D ss))
          (rec ds' (step frame g-few s i a (leb→le from s.start (and_l (leb from s.start) (leb s.start s.end) first)) (leb→le s.start s.end (and_r (leb from s.start) (leb s.start s.end) first)) (omega arith) H-small (P * product (map (divisor is) ss)) (k ∙ mul_left_comm P (divisor is s) (product (map (divisor is) ss))) ds' h) e')

never : {A : Type 0} → false ≡ true → A
never e = let z : ◌≡◌ {A = ℕ} 0 1 = cc in absurd (omega arith)

-- ---- before the first span

module _ {fonts : List Font} (spans : List Span) {K D S : ℕ} (frame : Frame fonts K D S) where
  abbrev pub cell_of : ExactCluster → Cell
  cell_of q =
      record {
        A = glyph_part fonts spans K D q.group;
        B = word_part fonts spans K D q.group;
        a = word_part fonts spans K D q.group;
        e = spaced_cost (length q.group.glyphs) * word_part fonts spans K D q.group;
        done = false;
      }

  beside_first : {H U : ℕ} {c : Cluster} {q : ExactCluster} → Spaced spans frame c q → Beside fonts spans K D S 0 H U (cell_of q) c q
  beside_first {H} {U} (i, a) =
      record {
        group = i;
        glyphs = refl;
        body = refl;
        index = a.index;
        collapsed = a.collapsed;
        width = a.width;
        advance = track-lower 2 K a.advance;
        spacing = subst₂ (λ (x : Float) (y : Frac). Track D S 2 x y H U) (sym a.spacing.0) (sym a.spacing.1) (track-zero frame.scale 2 H U);
        shift_x = a.shift_x;
        shift_y = a.shift_y;
        fresh = λ e. (refl, refl, a.advance);
        past = λ e. never e;
      }

  pub lined-first : {H U : ℕ} {cs : List Cluster} {qs : List ExactCluster} → AllPairs (Spaced spans frame) cs qs → Lined fonts spans K D S 0 H U (map cell_of qs) cs qs
  lined-first AllPairs.none = Lined.none
  lined-first (AllPairs.more p ps) = Lined.more (beside_first p) (lined-first ps)

  none_first : (f : Cell → ℕ) (qs : List ExactCluster) → sum_of (set f) (map cell_of qs) ≡ 0
  none_first f [] = refl
  none_first f (q ∷ qs) = omega (arith, none_first f qs)

  -- the masses of the clusters with their spacing
  abbrev pub bodies_mass : List ExactCluster → ℕ
  bodies_mass qs = sum_of (λ k. k.B) (map cell_of qs)

  pub adjusted-first : {g H : ℕ} {cs : List Cluster} {qs : List ExactCluster} → AllPairs (Spaced spans frame) cs qs → All (λ q. length q.group.glyphs ≤ g) qs → length qs ≤ g
      → Adjusted fonts spans K D S g 0 H (bodies_mass qs) 0 (map exact.index qs) cs qs
  adjusted-first {g} {qs = qs} ps counts few =
      record {
        cells = map cell_of qs;
        lined = lined-first ps;
        indexes = refl;
        counts = counts;
        bodies = refl;
        masses = rw (none_first (λ k. k.a) qs, none_first (λ k. k.B) qs) (omega arith);
        errors = rw (none_first (λ k. k.e) qs, none_first (λ k. k.B) qs) (omega arith);
        few = subst (λ (n : ℕ). n ≤ g) (sym (length-map qs cell_of)) few;
      }

-- ---- after the last span

set_below : (f : Cell → ℕ) (ks : List Cell) → sum_of (set f) ks ≤ sum_of f ks
set_below f [] = le_refl 0
set_below f (k ∷ ks) = go k.done (set_below f ks)
  where
    go : (d : Bool) → sum_of (set f) ks ≤ sum_of f ks → cond d (f k) 0 + sum_of (set f) ks ≤ f k + sum_of f ks
    go true h = omega arith
    go false h = omega arith

-- what is not set is its body
fresh-masses : {fonts : List Font} {spans : List Span} {K D S from H U : ℕ} {ks : List Cell} {cs : List Cluster} {qs : List ExactCluster} → Lined fonts spans K D S from H U ks cs qs
    → sum_of (λ k. k.a) ks + sum_of (set (λ k. k.B)) ks ≤ sum_of (set (λ k. k.a)) ks + sum_of (λ k. k.B) ks
fresh-masses Lined.none = le_refl 0
fresh-masses (Lined.more {k = k} {ks = ks} b l) = go k.done refl (fresh-masses l)
  where
    go : (d : Bool) → k.done ≡ d → sum_of (λ k. k.a) ks + sum_of (set (λ k. k.B)) ks ≤ sum_of (set (λ k. k.a)) ks + sum_of (λ k. k.B) ks
        → k.a + sum_of (λ k. k.a) ks + (cond d k.B 0 + sum_of (set (λ k. k.B)) ks) ≤ cond d k.a 0 + sum_of (set (λ k. k.a)) ks + (k.B + sum_of (λ k. k.B) ks)
    go true e h = omega arith
    go false e h = omega (arith, (b.fresh e).0)

fresh-errors : {fonts : List Font} {spans : List Span} {K D S from H U : ℕ} (g : ℕ) {ks : List Cell} {cs : List Cluster} {qs : List ExactCluster} → All (λ q. length q.group.glyphs ≤ g) qs → Lined fonts spans K D S from H U ks cs qs
    → sum_of (λ k. k.e) ks + advances_cost g * sum_of (set (λ k. k.B)) ks ≤ sum_of (set (λ k. k.e)) ks + advances_cost g * sum_of (λ k. k.B) ks
fresh-errors g All.none Lined.none = omega arith
fresh-errors g (All.more {x = q} p ps) (Lined.more {k = k} {ks = ks} b l) = go k.done refl (fresh-errors g ps l)
  where
    C : ℕ
    C = 67 * g + 159

    go : (d : Bool) → k.done ≡ d → sum_of (λ k. k.e) ks + C * sum_of (set (λ k. k.B)) ks ≤ sum_of (set (λ k. k.e)) ks + C * sum_of (λ k. k.B) ks
        → k.e + sum_of (λ k. k.e) ks + C * (cond d k.B 0 + sum_of (set (λ k. k.B)) ks) ≤ cond d k.e 0 + sum_of (set (λ k. k.e)) ks + C * (k.B + sum_of (λ k. k.B) ks)
    go true e h = omega arith
    go false e h = omega (arith, (b.fresh e).1, mul-le-mul_right k.B p)

-- all advances together
pub totals : {fonts : List Font} {spans : List Span} {K D S g from H B L : ℕ} {is : List ℕ} {cs : List Cluster} {qs : List ExactCluster} (a : Adjusted fonts spans K D S g from H B L is cs qs)
    → (sum_of (λ k. k.a) a.cells ≤ 3 * (B + L)) × (sum_of (λ k. k.e) a.cells ≤ advances_cost g * (B + L))
totals {g = g} {B = B} {L = L} a = (
  mass _ _ _ _ (fresh-masses a.lined) a.masses (set_below (λ k. k.B) a.cells) a.bodies,
  error (advances_cost g) _ _ _ _ (fresh-errors g a.counts a.lined) a.errors a.bodies,
)
  where
    mass : (t sa sb b : ℕ) → t + sb ≤ sa + b → sa ≤ 3 * (sb + L) → sb ≤ b → b ≡ B → t ≤ 3 * (B + L)
    mass t sa sb b h i j e = omega arith

    error : (c t se sb b : ℕ) → t + c * sb ≤ se + c * b → se ≤ c * (sb + L) → b ≡ B → t ≤ c * (B + L)
    error c t se sb b h i e = omega (arith, ap (λ (z : ℕ). c * z) e)
