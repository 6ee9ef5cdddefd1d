-- Step 6: what each cluster that takes part gets of a span's text length, beside the exact amount. Assumes nothing.
use Prim.Native.Nat.{ℕ, suc, ◌+◌, ◌-◌, ◌*◌, ◌/◌, ◌%◌, ◌^◌, ◌≤◌, ◌<◌}
use mathlib.Core.Path.{◌≡◌, refl, sym, ap, ◌∙◌, subst, subst₂}
use mathlib.Core.Bool.{Bool, true, false, cond}
use mathlib.Core.Logic.{◌⊎◌, inl, inr}
use mathlib.Core.List.{List, [], map, foldl}
use native.Mathlib.Nat.{le_refl, le_trans, mul-le-mul_left, mul-le-mul_right, mul_assoc, div-mul-le_self, div-add-mod', mod-lt, le_of_mul-le-mul_left}
use native.Mathlib.Omega.{arith}
use lib.ListN.{length}
use lib.Dec.{T, ltb, ltb→lt}
use lib.Ieee.{Float}
use Rattle.float_error.specs.Fraction.{Frac, value_of}
use Rattle.float_error.proofs.Units.{size_of}
use Rattle.float_error.proofs.Approx.{Absorbs, Absorbs.empty, Absorbs.covered}
use Rattle.float_error.proofs.Quotients.{absorbs-add}
use Rattle.float_error.proofs.Track.{Track, track-lower}
use Rattle.float_error.proofs.Inputs.{Input}
use Rattle.float_error.proofs.Operands.{track-zero, track-input, input-absorbs}
use Rattle.float_error.proofs.Sums.{Terms}
use Rattle.spec.specs.declared.Font.{Font}
use Rattle.spec.specs.declared.Span.{Span}
use Rattle.spec.specs.declared.Cluster.{Cluster}
use Rattle.spec.specs.LengthAdjust.{spacing_factor, taken_of, stretched_by, adjust_spacing_of}
use Rattle.spec.specs.Cluster.{rounded}
use Rattle.spec.specs.Exact.{ExactCluster, exact}
use Rattle.error_bound.proofs.Costs.{spaced_cost, amount_cost, amounts_cost}
use Rattle.error_bound.proofs.Share.{share_error, share, share-error, shares-error}
use Rattle.error_bound.proofs.Formed.{Frame}
use Rattle.error_bound.proofs.Places.{marks_from, marked, pick, at_marks, adjusted-at}
use Rattle.error_bound.proofs.Adjusted.{Cell, sum_of, Lined, Unset, unset, part, cost, taken-terms, picked-absorb, costs-below, same-indexes}
use Rattle.spec.specs.Lists.{All}

-- ---- as many are picked as are marked, and no more than there are

picked-length : {bs : List Bool} {ks : List Cell} → Unset bs ks → length (pick bs ks) ≡ marked bs
picked-length Unset.nil = refl
picked-length (Unset.here e u) = omega (arith, picked-length u)
picked-length (Unset.there u) = omega (arith, picked-length u)

marked-few : {bs : List Bool} {ks : List Cell} → Unset bs ks → marked bs ≤ length ks
marked-few Unset.nil = le_refl 0
marked-few (Unset.here e u) = omega (arith, marked-few u)
marked-few (Unset.there u) = omega (arith, marked-few u)

pub picked-sum : (f : Cell → ℕ) {bs : List Bool} {ks : List Cell} → Unset bs ks → sum_of f (pick bs ks) ≤ sum_of f ks
picked-sum f Unset.nil = le_refl 0
picked-sum f (Unset.here e u) = omega (arith, picked-sum f u)
picked-sum f (Unset.there u) = omega (arith, picked-sum f u)

-- ---- the amount

-- h is the mass of the target and of what is brought to it, of n clusters, in a chunk of g glyphs
pub record Factor (D S g h n : ℕ) (x : Float) (y : Frac) : Type 0 where
  pub f : ℕ
  pub E : ℕ
  pub track : Track D S 2 x y f E
  pub mass : f ≤ h
  pub error : E ≤ amount_cost g * h
  pub room : E ≤ 2 ^ 23 * f
  pub total : n * f ≤ 2 * h
  pub errors : n * E ≤ amounts_cost g * h
  pub two : (E ≡ 0) ⊎ (2 ≤ g)

module _ {fonts : List Font} {spans : List Span} {K D S from H U g : ℕ} (frame : Frame fonts K D S) {ks : List Cell} {cs : List Cluster} {qs : List ExactCluster} (s : Span) (target : Input s.length)
    (l : Lined fonts spans K D S from H U ks cs qs) (before : from ≤ s.start) (counts : All (λ q. length q.group.glyphs ≤ g) qs) (fewer : length ks ≤ g) (g-few : g ≤ 1024) where
  abbrev marks : List Bool
  marks = marks_from s [] (map exact.index qs)

  abbrev A : ℕ
  A = sum_of (part s) (pick marks ks)

  abbrev C : ℕ
  C = sum_of (cost s) (pick marks ks)

  abbrev L : ℕ
  L = size_of s.length * D

  abbrev takens : Float
  takens = foldl (λ (w : Float) (c : Cluster). rounded.◌⊕◌ w (taken_of rounded s c)) rounded.zero (pick marks cs)

  abbrev exact_takens : Frac
  exact_takens = foldl (λ (w : Frac) (q : ExactCluster). exact.◌⊕◌ w (taken_of exact s q)) exact.zero (pick marks qs)

  u : Unset marks ks
  u = unset s [] l before

  divided : (K' : ℕ) → 1 < marked marks → K ≡ (marked marks - 1) * K' → L + A ≤ S
      → Factor D S g (L + A) (marked marks) (rounded.◌⊘◌ (rounded.◌⊖◌ s.length takens) (marked marks - 1)) (exact.◌⊘◌ (exact.◌⊖◌ (exact.of_float s.length) exact_takens) (marked marks - 1))
  divided K' some e fits =
      record {
        f = h / c;
        E = v;
        track = track-lower 2 K' (share c A C L g c-positive c-few g-few cheap (K' * 2) frame.scale (subst (λ (n : ℕ). Track D S n s.length (value_of s.length) L 0) level (track-input frame.scale (K * 2) _ s.length frame.is target))
            (subst₂ (λ (m n : ℕ). Terms D S m (taken_of rounded s) (taken_of exact s) (pick marks cs) (pick marks qs) A C n) level count (taken-terms frame s u l)) fits absorbs);
        mass = quotients.0;
        error = small;
        room = room absorbs;
        total = quotients.1;
        errors = errors absorbs;
        two = inr (omega (arith, c-few));
      }
    where
      c : ℕ
      c = marked marks - 1

      h : ℕ
      h = L + A

      c-positive : 0 < c
      c-positive = omega arith

      whole : marked marks ≡ suc c
      whole = omega arith

      c-few : suc c ≤ g
      c-few = omega (arith, marked-few u)

      c-short : c < 1024
      c-short = omega (arith, c-few)

      cheap : C ≤ spaced_cost g * A
      cheap = costs-below frame s g u counts l

      v : ℕ
      v = share_error c A C L g c-positive c-few g-few cheap

      small : v ≤ amount_cost g * h
      small = share-error c A C L g c-positive c-few g-few cheap

      level : K * 2 ≡ c * (K' * 2)
      level = ap (λ (z : ℕ). z * 2) e ∙ mul_assoc c K' 2

      count : length (pick marks ks) ≡ suc c
      count = picked-length u ∙ omega arith

      absorbs : Absorbs D (L + A) (L + A)
      absorbs = absorbs-add (input-absorbs D target) (picked-absorb frame s u l)

      -- the quotient and the rest
      quotients : (h / c ≤ h) × (marked marks * (h / c) ≤ 2 * h)
      quotients = go (h / c) (div-mul-le_self h c) (mul-le-mul_left (h / c) c-positive)
        where
          go : (q : ℕ) → q * c ≤ h → q * 1 ≤ q * c → (q ≤ h) × (marked marks * q ≤ 2 * h)
          go q a b = (omega arith, omega (arith, ap (λ (z : ℕ). z * q) whole))

      -- nothing, or so much that a count is small beside it
      nothing : h ≡ 0 → v ≡ 0
      nothing z = omega (arith, small, ap (λ (n : ℕ). amount_cost g * n) z)

      large : 2 ^ 26 * D ≤ h → 2 ^ 26 * 1 ≤ h
      large k = le_trans (mul-le-mul_left (2 ^ 26) frame.scale.positive) k

      errors : Absorbs D h h → marked marks * v ≤ amounts_cost g * h
      errors (empty z) = omega (arith, ap (λ (n : ℕ). marked marks * n) (nothing z))
      errors (covered k) = subst (λ (n : ℕ). n * v ≤ amounts_cost g * h) (sym whole) (shares-error c A C L g c-positive c-few g-few cheap (omega (arith, large k, c-short)))

      room : Absorbs D h h → v ≤ 2 ^ 23 * (h / c)
      room (empty z) = omega (arith, nothing z)
      room (covered k) = go (h / c) (h % c) (div-add-mod' h c) (mod-lt h c-positive) (large k) (errors (covered k))
        where
          go : (q r : ℕ) → q * c + r ≡ h → r < c → 2 ^ 26 * 1 ≤ h → marked marks * v ≤ amounts_cost g * h → v ≤ 2 ^ 23 * q
          go q r a b d i = below (le_trans (mul-le-mul_right v (omega arith)) (le_trans i (omega (arith, mul-le-mul_right h g-few, c-short))))
            where
              below : c * v ≤ c * (2 ^ 23 * q) → v ≤ 2 ^ 23 * q
              below j = le_of_mul-le-mul_left j c-positive

  -- or nothing, for one cluster or none
  none : Factor D S g (L + A) (marked marks) rounded.zero exact.zero
  none =
      record {
        f = 0;
        E = 0;
        track = track-zero frame.scale 2 0 0;
        mass = omega arith;
        error = omega arith;
        room = omega arith;
        total = omega arith;
        errors = omega arith;
        two = inl refl;
      }

  pub factor : (K' : ℕ) → (1 < marked marks → K ≡ (marked marks - 1) * K') → L + A ≤ S
      → Factor D S g (L + A) (marked marks) (spacing_factor rounded s.length takens (marked marks)) (spacing_factor exact s.length exact_takens (marked marks))
  unfolding spacing_factor
  factor K' e fits = go (ltb 1 (marked marks)) refl
    where
      go : (b : Bool) → ltb 1 (marked marks) ≡ b
          → Factor D S g (L + A) (marked marks) (cond b (rounded.◌⊘◌ (rounded.◌⊖◌ s.length takens) (marked marks - 1)) rounded.zero) (cond b (exact.◌⊘◌ (exact.◌⊖◌ (exact.of_float s.length) exact_takens) (marked marks - 1)) exact.zero)
      go true h = let some = ltb→lt 1 (marked marks) (subst T (sym h) tt) in divided K' some (e some) fits
      go false h = none

  -- by the marks of the exact clusters' indexes on both sides
  pub float_at : adjust_spacing_of rounded s cs ≡ at_marks (stretched_by rounded s (spacing_factor rounded s.length takens (marked marks))) marks cs
  float_at =
      adjusted-at rounded s cs
      ∙ ap (λ (bs : List Bool). at_marks (stretched_by rounded s (spacing_factor rounded s.length (foldl (λ (w : Float) (c : Cluster). rounded.◌⊕◌ w (taken_of rounded s c)) rounded.zero (pick bs cs)) (marked bs))) bs cs)
      (ap (marks_from s []) (same-indexes l))
