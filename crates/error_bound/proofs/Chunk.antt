-- A chunk: every cluster's offset is finite, and as near to the exact one as its chunk's sharpness says. Assumes nothing.
use Prim.Native.Nat.{ℕ, ◌+◌, ◌-◌, ◌*◌, ◌^◌, ◌≤◌, ◌<◌}
use mathlib.Core.Path.{◌≡◌, refl, sym, ap, ◌∙◌, subst, subst₂}
use mathlib.Core.Bool.{Bool, true, false, cond, ◌&&◌}
use mathlib.Core.List.{List, [], ◌∷◌, map, foldl, map-map}
use native.Mathlib.Nat.{one-mul, mul_assoc, le_of_eq, le_trans, mul-pos}
use native.Mathlib.Omega.{arith}
use lib.ListN.{length, length-map}
use lib.Dec.{T, ltb, ltb→lt, lit<}
use lib.Pow.{pow_pos}
use lib.IntN.{pos}
use Rattle.float_error.specs.Fraction.{Frac, ◌·ᵠ◌, ◌/ᵠ◌}
use Rattle.float_error.proofs.Units.{unit, reach}
use Rattle.float_error.proofs.CommonDenominator.{reads_as, reads-mul}
use Rattle.float_error.proofs.Approx.{scale_at, Absorbs, Absorbs.empty, Absorbs.covered}
use Rattle.float_error.proofs.Track.{track-near}
use Rattle.float_error.proofs.Near.{Near}
use Rattle.float_error.proofs.Inputs.{Input}
use Rattle.spec_laws.proofs.All.{all_map}
use Rattle.spec_laws.proofs.AsMany.{as_many}
use Rattle.spec.specs.declared.Font.{Font}
use Rattle.spec.specs.declared.Span.{Span}
use Rattle.spec.specs.declared.Glyph.{Glyph}
use Rattle.spec.specs.declared.Cluster.{Cluster}
use Rattle.spec.specs.Outcome.{given}
use Rattle.spec.specs.Lists.{any, All}
use Rattle.spec.specs.Job.{Job, Chunk, spans_of, has_length, spreads}
use Rattle.spec.specs.Check.{spans_ok}
use Rattle.spec.specs.Group.{Group, groups}
use Rattle.spec.specs.LetterSpacing.{apply_letter_spacing}
use Rattle.spec.specs.WordSpacing.{apply_word_spacing}
use Rattle.spec.specs.Position.{resolve_relative_shifts, rotate_shifts, positioned, mark_relative_shifts}
use Rattle.spec.specs.Cluster.{rounded}
use Rattle.spec.specs.LengthAdjust.{apply_length_adjust}
use Rattle.spec.specs.Layout.{letter_spaced_clusters, adjusted_clusters, resolve_clusters_positions_horizontal}
use Rattle.spec.specs.Exact.{ExactCluster, exact, formed_exactly, adjust_span_exactly, layout_exactly, size_total, allowed, sharpness, AllPairs}
use Rattle.error_bound.proofs.Costs.{spaced_cost}
use Rattle.error_bound.proofs.Products.{product, product-positive}
use Rattle.error_bound.proofs.Load.{Load}
use Rattle.error_bound.proofs.Formed.{FontIn, Frame, units_of}
use Rattle.error_bound.proofs.Spaced.{SpanIn, GroupIn, Spaced, word_part, written-formed, lettered, spaced}
use Rattle.error_bound.proofs.Places.{marked, marks_from}
use Rattle.error_bound.proofs.Lengths.{Adjusted, divisor, lengths_mass, all-spans, bodies_mass, adjusted-first}
use Rattle.error_bound.proofs.Summed.{Summed, adjusted-summed, plain-floats, plain-fractions, plain-summed}
use Rattle.error_bound.proofs.Shifts.{Shifted, shift_mass, shifted, shifted-indexes}
use Rattle.error_bound.proofs.Positions.{Offset, offset_error, reach_mass, marked-shifted, offsets}
use Rattle.error_bound.proofs.Numbers.{Sizes, Numbers, length-numbers, plain-numbers, H-small, shifts_fit, fits, room}
use Rattle.spec_laws.proofs.GlyphsShared.{group_glyphs}
use Rattle.error_bound.proofs.Accepted.{GroupsIn}
use Rattle.error_bound.proofs.Total.{groups_mass, indexes_of, groups_of, total-load}
use Rattle.error_bound.proofs.Groups.{spaced-groups, formed-groups, glyph-total, all-groups}

-- ---- the common denominator

divisor-positive : (is : List ℕ) (s : Span) → 0 < divisor is s
unfolding divisor
divisor-positive is s = go (spreads s)
  where
    n : ℕ
    n = marked (marks_from s [] is)

    more : (b : Bool) → ltb 1 n ≡ b → 0 < cond b (n - 1) 1
    more true e = let h = ltb→lt 1 n (subst T (sym e) tt) in omega arith
    more false e = lit< tt

    go : (b : Bool) → 0 < cond (b && ltb 1 n) (n - 1) 1
    go true = more (ltb 1 n) refl
    go false = lit< tt

divisors-positive : (is : List ℕ) (ss : List Span) → 0 < product (map (divisor is) ss)
divisors-positive is [] = lit< tt
divisors-positive is (s ∷ ss) = mul-pos (divisor-positive is s) (divisors-positive is ss)

units-positive : {fonts : List Font} → All FontIn fonts → 0 < product (units_of fonts)
units-positive fs = product-positive (all_map (λ n. 0 < n) (λ (f : Font). f.units) (λ f h. h.some) fs)

abbrev pub denominator : List Font → List Span → List ℕ → ℕ
denominator fonts spans is = product (units_of fonts) * (product (map (divisor is) spans) * 2)

pub frame-of : {fonts : List Font} (spans : List Span) (is : List ℕ) → All FontIn fonts
    → Frame fonts (product (map (divisor is) spans)) (denominator fonts spans is) (reach * denominator fonts spans is)
frame-of {fonts} spans is fs =
    record { scale = scale_at _ (mul-pos (units-positive fs) (mul-pos (divisors-positive is spans) (lit< tt))); is = refl; good = fs }

-- ---- the chunk

-- a cluster beside the exact one: its offset is within b
pub record Placed (b : Frac) (d : Cluster) (q : ExactCluster) : Type 0 where
  pub index : d.index ≡ q.group.first.index
  pub collapsed : d.collapsed ≡ q.collapsed
  pub near : Near d.x q.x b

module _ (job : Job) (c : Chunk) (offset : ℕ) (gs : List Glyph) (fonts : All FontIn job.fonts) (ss : All SpanIn (spans_of c)) (in_order : T (spans_ok c)) (few-spans : length (spans_of c) ≤ 32) (dxs : All Input job.dx) (dys : All Input job.dy)
    (gi : GroupsIn job.fonts (spans_of c) 1024 (groups (spans_of c) gs)) where
  abbrev spans : List Span
  spans = spans_of c

  abbrev G : List Group
  G = groups spans gs

  abbrev is : List ℕ
  is = indexes_of G

  abbrev K : ℕ
  K = product (map (divisor is) spans)

  abbrev D : ℕ
  D = denominator job.fonts spans is

  abbrev S : ℕ
  S = reach * D

  frame : Frame job.fonts K D S
  frame = frame-of spans is fonts

  abbrev g : ℕ
  g = group_glyphs G

  abbrev H : ℕ
  H = groups_mass job.fonts spans K D G + lengths_mass D spans

  abbrev X : ℕ
  X = shift_mass D job.dx c.text offset is + shift_mass D job.dy c.text offset is

  abbrev formed : List ExactCluster
  formed = formed_exactly job c gs

  formed-of : groups_of formed ≡ G
  unfolding formed_exactly
  formed-of = formed-groups job.fonts spans G (letter_spaced_clusters job c gs) (as_many job c gs)

  -- T
  abbrev mass_of : List Group → ℕ
  mass_of l =
      groups_mass job.fonts spans K D l + lengths_mass D spans + (shift_mass D job.dx c.text offset (indexes_of l) + shift_mass D job.dy c.text offset (indexes_of l))

  total : Load D (size_total job offset c formed) (H + X) (g + 4 * length G + length spans)
  total =
      subst (λ (l : List Group). Load D (size_total job offset c formed) (mass_of l) (group_glyphs l + 4 * length l + length spans)) formed-of
      (subst (λ (n : ℕ). Load D (size_total job offset c formed) (mass_of (groups_of formed)) (group_glyphs (groups_of formed) + 4 * n + length spans)) (sym (length-map formed (λ (q : ExactCluster). q.group)))
      (total-load job c offset frame dxs dys formed (subst (All (GroupIn job.fonts spans)) (sym formed-of) gi.groups) ss))

  sizes : Sizes S (unit * D) g (length G) (length spans) H X
  sizes = record { large = frame.scale.large; glyphs = gi.few; clusters = gi.count; spans = few-spans; total = total.small }

  -- ---- steps 2 to 5
  abbrev floats : List Cluster
  floats = apply_word_spacing rounded c.text spans (letter_spaced_clusters job c gs)

  abbrev fractions : List ExactCluster
  fractions = apply_word_spacing exact c.text spans (apply_letter_spacing exact spans formed)

  beside : AllPairs (Spaced spans frame) floats fractions
  unfolding formed_exactly letter_spaced_clusters
  beside = spaced spans frame c.text (lettered spans frame gi.groups (written-formed job.fonts spans job.mode G))

  fractions-of : groups_of fractions ≡ G
  unfolding formed_exactly
  fractions-of = spaced-groups job.fonts spans c.text G (letter_spaced_clusters job c gs) (as_many job c gs)

  indexes-of : map exact.index fractions ≡ is
  indexes-of = sym (map-map (λ (g : Group). g.first.index) (λ (q : ExactCluster). q.group) fractions) ∙ ap indexes_of fractions-of

  length-of : length fractions ≡ length G
  length-of = sym (length-map fractions (λ (q : ExactCluster). q.group)) ∙ ap length fractions-of

  bodies_of : (qs : List ExactCluster) → bodies_mass spans frame qs ≡ groups_mass job.fonts spans K D (groups_of qs)
  bodies_of [] = refl
  bodies_of (q ∷ qs) = ap (λ (n : ℕ). word_part job.fonts spans K D q.group + n) (bodies_of qs)

  counts : All (λ q. length q.group.glyphs ≤ g) fractions
  counts = all-groups (λ h. length h.glyphs ≤ g) fractions (subst (All (λ h. length h.glyphs ≤ g)) (sym fractions-of) gi.each)

  few : length fractions ≤ g
  few = subst (λ (n : ℕ). n ≤ g) (sym length-of) gi.count

  bodies : bodies_mass spans frame fractions ≡ groups_mass job.fonts spans K D G
  bodies = bodies_of fractions ∙ ap (groups_mass job.fonts spans K D) fractions-of

  -- ---- step 7, whatever step 6 leaves, and the distance
  abbrev moved : List Cluster → List Cluster
  moved ds = mark_relative_shifts job c.text offset (rotate_shifts rounded job.mode (resolve_relative_shifts rounded job c.text offset ds))

  abbrev moved_exactly : List ExactCluster → List ExactCluster
  moved_exactly qs = rotate_shifts exact job.mode (resolve_relative_shifts exact job c.text offset qs)

  abbrev bound : ℕ → Frac
  bound k = pos (g + 3) ·ᵠ size_total job offset c formed /ᵠ (2 ^ k)

  abbrev Within : Frac → List Cluster → List ExactCluster → Type 0
  Within b ds qs = AllPairs (Placed b) (positioned rounded c.anchor (moved ds)).clusters (positioned exact c.anchor (moved_exactly qs)).clusters

  module _ {Y Ey B E k : ℕ} {ds : List Cluster} {qs : List ExactCluster} (nums : Numbers g (length G) H X Y Ey B E k) (left : Summed job.fonts spans K D S g Y Ey B E is ds qs) where
    as-many-left : length qs ≡ length G
    as-many-left = sym (length-map qs exact.index) ∙ ap length left.indexes ∙ length-map G (λ (g : Group). g.first.index)

    abbrev Ex : ℕ
    Ex = 9 * (length G * X)

    shifts : Shifted D S Y Ey X Ex left.cells (moved ds) (moved_exactly qs)
    shifts =
        marked-shifted job c.text offset
        (subst (λ (n : ℕ). Shifted D S Y Ey X (9 * (n * X)) left.cells (rotate_shifts rounded job.mode (resolve_relative_shifts rounded job c.text offset ds)) (moved_exactly qs)) as-many-left
        (shifted frame.scale (product (units_of job.fonts) * K) (sym (mul_assoc (product (units_of job.fonts)) K 2)) job c.text offset dxs dys (subst (λ (n : ℕ). n ≤ 1024) (sym as-many-left) (le_trans gi.count gi.few)) (shifts_fit sizes)
        (le_of_eq (ap (λ (l : List ℕ). shift_mass D job.dx c.text offset l + shift_mass D job.dy c.text offset l) left.indexes)) left.lined))

    abbrev M : ℕ
    M = reach_mass B X Y

    absorbs : Absorbs D (M + M) M
    absorbs = go total.absorbs
      where
        go : Absorbs D (H + X) (H + X) → Absorbs D (M + M) M
        go (empty z) = empty (none (H + X) M z nums.most)
          where
            none : (t m : ℕ) → t ≡ 0 → m ≤ 4 * t → m + m ≡ 0
            none t m z h = omega arith
        go (covered z) = covered (le_trans z nums.least)

    abbrev Eo : ℕ
    Eo = offset_error B E g X Ex Y Ey

    near : {d : Cluster} {q : ExactCluster} → Offset D S (6 * M) Eo d q → Near d.x q.x (bound k)
    near o = track-near (2 ^ k) (pow_pos k) o.x (reads_as ((g + 3) * (H + X)) 0 (whole (g + 3) (H + X)) (reads-mul (pos (g + 3)) total.reads)) nums.distance
      where
        whole : (k t : ℕ) → k * t + 0 * 0 + 0 ≡ k * t + (k * 0 + 0 * t)
        whole k t = omega arith

    all_near : {ds : List Cluster} {qs : List ExactCluster} → AllPairs (Offset D S (6 * M) Eo) ds qs → AllPairs (Placed (bound k)) ds qs
    all_near AllPairs.none = AllPairs.none
    all_near (AllPairs.more o os) = AllPairs.more (record { index = o.index; collapsed = o.collapsed; near = near o }) (all_near os)

    within : Within (bound k) ds qs
    within = all_near (offsets frame.scale Y Ey X Ex B E g nums.advances (room sizes nums) (fits sizes nums) c.anchor absorbs shifts (shifted-indexes shifts) left.mass left.error left.few)

  -- ---- step 6, with a text length and without one
  module _ (ds : List Cluster) (e : adjusted_clusters job c gs ≡ given ds) where
    abbrev adjusted_exactly : List ExactCluster
    adjusted_exactly = foldl adjust_span_exactly fractions spans

    length-within : Within (bound 18) ds adjusted_exactly
    unfolding adjusted_clusters apply_length_adjust spans_ok
    length-within =
        let start =
        subst₂ (λ (b : ℕ) (l : List ℕ). Adjusted job.fonts spans K D S g 0 H b 0 l floats fractions) bodies indexes-of (adjusted-first spans frame beside counts few) in
        let all = all-spans frame gi.few (H-small sizes) (length c.text) spans ss in_order 1 (sym (one-mul K)) (omega arith) start ds e in
        within (length-numbers sizes) (adjusted-summed all.1 (omega arith))

    plain-within : any has_length spans ≡ false → Within (bound 20) ds adjusted_exactly
    unfolding adjusted_clusters apply_length_adjust
    plain-within plain =
        subst₂ (Within (bound 20)) unchanged (sym (plain-fractions spans plain fractions))
        (within (plain-numbers sizes) (subst (λ (l : List ℕ). Summed job.fonts spans K D S g 0 0 H (spaced_cost g * H) l floats fractions) indexes-of (plain-summed spans frame beside counts few (omega (arith, bodies)))))
      where
        unchanged : floats ≡ ds
        unchanged = cc (plain-floats spans plain floats)

    allowed_of : allowed job offset c formed ≡ bound (sharpness c)
    unfolding allowed
    allowed_of = ap (λ (n : ℕ). pos (n + 3) ·ᵠ size_total job offset c formed /ᵠ (2 ^ sharpness c)) (glyph-total formed ∙ ap group_glyphs formed-of)

    pub chunk-placed : AllPairs (Placed (allowed job offset c formed)) (resolve_clusters_positions_horizontal job offset c ds).clusters (layout_exactly job offset c formed)
    unfolding resolve_clusters_positions_horizontal layout_exactly
    chunk-placed =
        subst (λ (b : Frac). Within b ds adjusted_exactly) (sym allowed_of) (go (any has_length spans) refl)
      where
        go : (b : Bool) → any has_length spans ≡ b → Within (bound (cond b 18 20)) ds adjusted_exactly
        go true h = length-within
        go false h = plain-within h
