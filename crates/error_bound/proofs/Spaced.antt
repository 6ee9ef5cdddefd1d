-- Steps 2 to 5: each cluster beside the exact one, with the same byte index, tag, covering span and collapse mark. Assumes nothing.
use Prim.Native.Nat.{ℕ, suc, ◌+◌, ◌-◌, ◌*◌, ◌^◌, ◌≤◌, ◌<◌}
use mathlib.Core.Path.{◌≡◌, refl, sym, ap, ap₂, subst}
use mathlib.Core.Bool.{Bool, true, false, not, cond}
use mathlib.Core.List.{List, [], ◌∷◌, map, foldl, zip_with}
use native.Mathlib.Nat.{le_refl, mul-le-mul_right}
use native.Mathlib.Omega.{arith}
use lib.ListN.{length}
use lib.Dec.{eqb}
use lib.Ieee.{Float, binary32, add}
use Rattle.float_error.specs.Fraction.{Frac, 0ᵠ, ◌+ᵠ◌, absᵠ, value_of}
use Rattle.float_error.proofs.Units.{unit, size_of}
use Rattle.float_error.proofs.Track.{Track, track-weaken, track-add}
use Rattle.float_error.proofs.Inputs.{Input, FontSize}
use Rattle.float_error.proofs.Operands.{track-zero, track-input}
use Rattle.spec_laws.proofs.AsMany.{length-scan}
use Rattle.spec.specs.declared.Font.{Font}
use Rattle.spec.specs.declared.Glyph.{Glyph}
use Rattle.spec.specs.declared.Span.{Span}
use Rattle.spec.specs.declared.Cluster.{Cluster}
use Rattle.spec.specs.Lists.{scan, any, All}
use Rattle.spec.specs.Single.{+0, is_zero, is_positive}
use Rattle.spec.specs.Job.{span_at, top_to_bottom}
use Rattle.spec.specs.Group.{Group}
use Rattle.spec.specs.Script.{script_supports_letter_spacing, is_word_separator_at}
use Rattle.spec.specs.Arithmetic.{glyph_advance, sum_advance, max_advance}
use Rattle.spec.specs.LetterSpacing.{collapse_if_empty, letter_spaced, next_letter_spaced, apply_letter_spacing}
use Rattle.spec.specs.WordSpacing.{word_spaced, apply_word_spacing}
use Rattle.spec.specs.ClusterParts.{with_line, collapsed}
use Rattle.spec.specs.Cluster.{rounded, form_glyph_clusters}
use Rattle.spec.specs.WritingMode.{vertical_metrics, apply_writing_mode}
use Rattle.spec.specs.Exact.{ExactCluster, exact, exact_cluster, AllPairs}
use Rattle.error_bound.proofs.Costs.{spaced_cost}
use Rattle.error_bound.proofs.Load.{Load, load-zero, load-add, load-input}
use Rattle.error_bound.proofs.Formed.{Frame, GlyphIn, glyphs_mass, glyphs-load, advance-track, width-track}

-- ---- what the checks say of a span and of a cluster's glyphs

pub record SpanIn (s : Span) : Type 0 where
  pub size : FontSize s.size
  pub letter : Input s.letter
  pub word : Input s.word
  pub length : Input s.length

pub record GroupIn (fonts : List Font) (spans : List Span) (g : Group) : Type 0 where
  pub glyphs : All (GlyphIn fonts) g.glyphs
  pub some : 0 < length g.glyphs
  pub few : length g.glyphs ≤ 1024
  pub span : SpanIn (span_at spans g.span)

-- ---- masses of a cluster: its glyphs, with its letter spacing, with its word spacing

module _ (fonts : List Font) (spans : List Span) (K D : ℕ) (g : Group) where
  abbrev pub glyph_part : ℕ
  glyph_part = glyphs_mass fonts K (span_at spans g.span).size g.glyphs

  abbrev pub letter_part : ℕ
  letter_part = glyph_part + size_of (span_at spans g.span).letter * D

  abbrev pub word_part : ℕ
  word_part = letter_part + size_of (span_at spans g.span).word * D

-- ---- a cluster beside the exact one: its width and advance have these masses and errors

pub record Along (D S K A a e : ℕ) (c : Cluster) (q : ExactCluster) : Type 0 where
  pub index : c.index ≡ q.group.first.index
  pub tag : c.tag ≡ q.group.first.tag
  pub span : c.span ≡ q.group.span
  pub collapsed : c.collapsed ≡ q.collapsed
  pub width : Track D S (K * 2) c.width q.width A (19 * A)
  pub advance : Track D S (K * 2) c.advance q.advance a e
  pub spacing : (c.spacing ≡ +0) × (q.spacing ≡ 0ᵠ)
  pub shift_x : (c.x ≡ +0) × (q.x ≡ 0ᵠ)
  pub shift_y : (c.y ≡ +0) × (q.y ≡ 0ᵠ)

-- ---- steps 2 and 3

-- a cluster of a group, with some advance
pub record FormedOf (fonts : List Font) (spans : List Span) (a : Float) (g : Group) (c : Cluster) : Type 0 where
  pub index : c.index ≡ g.first.index
  pub tag : c.tag ≡ g.first.tag
  pub span : c.span ≡ g.span
  pub fresh : c.collapsed ≡ false
  pub width : c.width ≡ max_advance rounded fonts (span_at spans g.span).size g.glyphs
  pub advance : c.advance ≡ a
  pub spacing : c.spacing ≡ +0
  pub x : c.x ≡ +0
  pub y : c.y ≡ +0

either : {A : Type 0} (P : A → Type 0) (b : Bool) (x y : A) → P x → P y → P (cond b x y)
either P true x y p q = p
either P false x y p q = q

-- as step 2 forms it
abbrev pub Formed : List Font → List Span → Group → Cluster → Type 0
Formed fonts spans g c = FormedOf fonts spans (sum_advance rounded fonts (span_at spans g.span).size g.glyphs) g c

formed : (fonts : List Font) (spans : List Span) (g : Group) → Formed fonts spans g (form_glyph_clusters fonts spans g)
unfolding form_glyph_clusters
formed fonts spans g = record { index = refl; tag = refl; span = refl; fresh = refl; width = refl; advance = refl; spacing = refl; x = refl; y = refl }

turned-formed : {fonts : List Font} {spans : List Span} (g : Group) (c : Cluster) → Formed fonts spans g c → Formed fonts spans g (vertical_metrics c)
unfolding vertical_metrics
turned-formed {fonts} {spans} g c f =
    either (Formed fonts spans g) c.upright _ _
    (record { index = f.index; tag = f.tag; span = f.span; fresh = f.fresh; width = f.width; advance = f.advance; spacing = f.spacing; x = f.x; y = f.y })
    (record { index = f.index; tag = f.tag; span = f.span; fresh = f.fresh; width = f.width; advance = f.advance; spacing = f.spacing; x = f.x; y = f.y })

all-formed : (fonts : List Font) (spans : List Span) (gs : List Group) → AllPairs (Formed fonts spans) gs (map (form_glyph_clusters fonts spans) gs)
all-formed fonts spans [] = AllPairs.none
all-formed fonts spans (g ∷ gs) = AllPairs.more (formed fonts spans g) (all-formed fonts spans gs)

pairs-map : {A B : Type 0} {R : A → B → Type 0} (f : B → B) → ((a : A) (b : B) → R a b → R a (f b)) → {xs : List A} {ys : List B} → AllPairs R xs ys → AllPairs R xs (map f ys)
pairs-map f h AllPairs.none = AllPairs.none
pairs-map f h (AllPairs.more r rs) = AllPairs.more (h _ _ r) (pairs-map f h rs)

pub written-formed : (fonts : List Font) (spans : List Span) (mode : ℕ) (gs : List Group)
    → AllPairs (Formed fonts spans) gs (apply_writing_mode mode (map (form_glyph_clusters fonts spans) gs))
unfolding apply_writing_mode
written-formed fonts spans mode gs =
    either (AllPairs (Formed fonts spans) gs) (eqb mode top_to_bottom) _ _ (pairs-map vertical_metrics turned-formed (all-formed fonts spans gs)) (all-formed fonts spans gs)

length-zip : {A B C : Type 0} (f : A → B → C) {R : A → B → Type 0} {xs : List A} {ys : List B} → AllPairs R xs ys → (zs : List B) → length zs ≡ length ys
    → length (zip_with f xs zs) ≡ length ys
unfolding zip_with
length-zip f AllPairs.none zs e = refl
length-zip f (AllPairs.more r rs) [] e = let z : ⊥ = omega arith in absurd z
length-zip f (AllPairs.more r rs) (z ∷ zs) e = ap suc (length-zip f rs zs (omega arith))

-- ---- step 4

module _ {fonts : List Font} (spans : List Span) {K D S : ℕ} (frame : Frame fonts K D S) where
  abbrev pub Lettered : Cluster → ExactCluster → Type 0
  Lettered c q =
      GroupIn fonts spans q.group
      × Along D S K (glyph_part fonts spans K D q.group) (letter_part fonts spans K D q.group) ((9 * length q.group.glyphs + 28) * letter_part fonts spans K D q.group) c q

  module _ (g : Group) (i : GroupIn fonts spans g) where
    abbrev own_span : Span
    own_span = span_at spans g.span

    abbrev own_glyphs : ℕ
    own_glyphs = glyph_part fonts spans K D g

    abbrev own_letter : ℕ
    own_letter = size_of own_span.letter * D

    abbrev own_count : ℕ
    own_count = length g.glyphs

    -- what T counts of them
    pub body : Load D (foldl (λ (t : Frac) (a : Glyph). t +ᵠ absᵠ (glyph_advance exact fonts own_span.size a)) 0ᵠ g.glyphs +ᵠ absᵠ (value_of own_span.letter) +ᵠ absᵠ (value_of own_span.word))
        (0 + own_glyphs + own_letter + size_of own_span.word * D) (0 + own_count + 1 + 1)
    body = load-add (load-add (glyphs-load frame own_span.size i.span.size (load-zero D) i.glyphs) (load-input D i.span.letter)) (load-input D i.span.word)

    -- far below S
    pub word_fits : word_part fonts spans K D g ≤ S
    word_fits = go (unit * D) body.small frame.scale.large
      where
        go : (z : ℕ) → 0 + own_glyphs + own_letter + size_of own_span.word * D ≤ (0 + own_count + 1 + 1) * (2 ^ 28 * z) → 2 ^ 50 * z ≤ S → own_glyphs + own_letter + size_of own_span.word * D ≤ S
        go z h k = omega (arith, mul-le-mul_right (2 ^ 28 * z) i.few)

    advance-formed : Track D S (K * 2) (sum_advance rounded fonts own_span.size g.glyphs) (sum_advance exact fonts own_span.size g.glyphs) own_glyphs ((19 + 9 * own_count) * own_glyphs)
    advance-formed = advance-track frame own_span.size i.span.size i.glyphs i.few

    width-formed : Track D S (K * 2) (max_advance rounded fonts own_span.size g.glyphs) (max_advance exact fonts own_span.size g.glyphs) own_glyphs (19 * own_glyphs)
    width-formed = width-track frame own_span.size i.span.size i.glyphs i.few

    -- no spacing added, and spacing added
    advance-plain : Track D S (K * 2) (sum_advance rounded fonts own_span.size g.glyphs) (sum_advance exact fonts own_span.size g.glyphs) (own_glyphs + own_letter) ((9 * own_count + 28) * (own_glyphs + own_letter))
    advance-plain = track-weaken _ _ (more own_glyphs own_letter) (cost own_glyphs own_letter own_count) advance-formed
      where
        more : (a l : ℕ) → a ≤ a + l
        more a l = omega arith

        cost : (a l m : ℕ) → (19 + 9 * m) * a ≤ (9 * m + 28) * (a + l)
        cost a l m = omega arith

    advance-lettered : Track D S (K * 2) (add binary32 (sum_advance rounded fonts own_span.size g.glyphs) own_span.letter) (sum_advance exact fonts own_span.size g.glyphs +ᵠ value_of own_span.letter) (own_glyphs + own_letter) ((9 * own_count + 28) * (own_glyphs + own_letter))
    advance-lettered =
        track-weaken _ _ (le_refl (own_glyphs + own_letter)) (cost own_glyphs own_letter own_count)
        (track-add (own_glyphs + own_letter) advance-formed (track-input frame.scale (K * 2) _ own_span.letter frame.is i.span.letter) (le_refl (own_glyphs + own_letter)) (room own_glyphs own_letter own_count i.few) (less own_glyphs own_letter _ word_fits))
      where
        cost : (a l m : ℕ) → (19 + 9 * m) * a + 0 + 9 * (a + l) ≤ (9 * m + 28) * (a + l)
        cost a l m = omega arith

        room : (a l m : ℕ) → m ≤ 1024 → (19 + 9 * m) * a + 0 ≤ 2 ^ 24 * (a + l)
        room a l m h = omega (arith, mul-le-mul_right a h)

        less : (a l w : ℕ) → a + l + w ≤ S → a + l ≤ S
        less a l w h = omega arith

    -- a cluster with some advance, kept and collapsed
    kept : {a : Float} {q : Frac} (c : Cluster) → FormedOf fonts spans a g c → Track D S (K * 2) a q (own_glyphs + own_letter) ((9 * own_count + 28) * (own_glyphs + own_letter))
        → Lettered c (record { group = g; collapsed = c.collapsed; width = max_advance exact fonts own_span.size g.glyphs; advance = q; spacing = 0ᵠ; x = 0ᵠ; y = 0ᵠ })
    kept c f t = (
      i,
      record {
        index = f.index;
        tag = f.tag;
        span = f.span;
        collapsed = refl;
        width = rw f.width width-formed;
        advance = rw f.advance t;
        spacing = (f.spacing, refl);
        shift_x = (f.x, refl);
        shift_y = (f.y, refl);
      },
    )

    gone : {a : Float} (c : Cluster) → FormedOf fonts spans a g c
        → Lettered (collapsed c) (record { group = g; collapsed = true; width = 0ᵠ; advance = 0ᵠ; spacing = 0ᵠ; x = 0ᵠ; y = 0ᵠ })
    gone c f = (
      i,
      record {
        index = f.index;
        tag = f.tag;
        span = f.span;
        collapsed = refl;
        width = track-zero frame.scale (K * 2) own_glyphs (19 * own_glyphs);
        advance = track-zero frame.scale (K * 2) (own_glyphs + own_letter) ((9 * own_count + 28) * (own_glyphs + own_letter));
        spacing = (f.spacing, refl);
        shift_x = (f.x, refl);
        shift_y = (f.y, refl);
      },
    )

    unspaced-one : (c : Cluster) → Formed fonts spans g c → Lettered c (exact_cluster fonts spans g c)
    unfolding exact_cluster
    unspaced-one c f = kept c f advance-plain

    -- settled, once the advance is a beside q
    settled-one : {a : Float} {q : Frac} (c : Cluster) → FormedOf fonts spans a g c → Track D S (K * 2) a q (own_glyphs + own_letter) ((9 * own_count + 28) * (own_glyphs + own_letter)) → (b : Bool)
        → Lettered (cond b (collapsed c) c)
        (collapse_if_empty exact (record { group = g; collapsed = (cond b (collapsed c) c).collapsed; width = max_advance exact fonts own_span.size g.glyphs; advance = q; spacing = 0ᵠ; x = 0ᵠ; y = 0ᵠ }))
    unfolding collapse_if_empty
    settled-one c f t true = gone c f
    settled-one {q = q} c f t false =
        subst (λ (d : Bool). Lettered c (cond d (collapse_of d) (with_mark d))) (sym f.fresh) (subst (λ (d : Bool). Lettered c (with_mark d)) f.fresh (kept c f t))
      where
        with_mark : Bool → ExactCluster
        with_mark d = record { group = g; collapsed = d; width = max_advance exact fonts own_span.size g.glyphs; advance = q; spacing = 0ᵠ; x = 0ᵠ; y = 0ᵠ }

        collapse_of : Bool → ExactCluster
        collapse_of d = record { group = g; collapsed = d; width = 0ᵠ; advance = 0ᵠ; spacing = 0ᵠ; x = 0ᵠ; y = 0ᵠ }

    letter-one : (last : Bool) (c : Cluster) → Formed fonts spans g c
        → Lettered (letter_spaced rounded own_span.letter last c) (letter_spaced exact own_span.letter last (exact_cluster fonts spans g (letter_spaced rounded own_span.letter last c)))
    unfolding letter_spaced collapse_if_empty exact_cluster
    letter-one true c f = settled-one c f advance-plain (not (is_positive c.advance))
    letter-one false c f =
        settled-one (with_line c.width (add binary32 c.advance own_span.letter) c.spacing c.x c.y c)
        (record { index = f.index; tag = f.tag; span = f.span; fresh = f.fresh; width = f.width; advance = ap (λ (a : Float). add binary32 a own_span.letter) f.advance; spacing = f.spacing; x = f.x; y = f.y })
        advance-lettered (not (is_positive (add binary32 c.advance own_span.letter)))

    next-is : (left : ℕ) (c : Cluster) → Formed fonts spans g c
        → next_letter_spaced rounded spans left c ≡ cond (script_supports_letter_spacing g.first.tag) (letter_spaced rounded own_span.letter (eqb left 1) c) c
    unfolding next_letter_spaced
    next-is left c f =
        ap₂ (λ (t k : ℕ). cond (script_supports_letter_spacing t) (letter_spaced rounded (span_at spans k).letter (eqb left 1) c) c) f.tag f.span

    next_one : (left : ℕ) (c : Cluster) → Formed fonts spans g c
        → Lettered (next_letter_spaced rounded spans left c) (next_letter_spaced exact spans left (exact_cluster fonts spans g (next_letter_spaced rounded spans left c)))
    unfolding next_letter_spaced exact_cluster
    next_one left c f =
        subst (λ (d : Cluster). Lettered d (next_letter_spaced exact spans left (exact_cluster fonts spans g d))) (sym (next-is left c f))
        (go (script_supports_letter_spacing g.first.tag))
      where
        go : (b : Bool) → Lettered (cond b (letter_spaced rounded own_span.letter (eqb left 1) c) c) (cond b (letter_spaced exact own_span.letter (eqb left 1) (exact_cluster fonts spans g (cond b (letter_spaced rounded own_span.letter (eqb left 1) c) c))) (exact_cluster fonts spans g (cond b (letter_spaced rounded own_span.letter (eqb left 1) c) c)))
        go true = letter-one (eqb left 1) c f
        go false = unspaced-one c f

  -- the clusters in order, of which `left` are still to come
  scanned : {gs : List Group} {cs : List Cluster} → All (GroupIn fonts spans) gs → AllPairs (Formed fonts spans) gs cs → (left : ℕ)
      → AllPairs Lettered (scan (λ (left : ℕ) (c : Cluster). left - 1) (next_letter_spaced rounded spans) left cs)
      (scan (λ (left : ℕ) (c : ExactCluster). left - 1) (next_letter_spaced exact spans) left (zip_with (exact_cluster fonts spans) gs (scan (λ (left : ℕ) (c : Cluster). left - 1) (next_letter_spaced rounded spans) left cs)))
  unfolding scan zip_with
  scanned All.none AllPairs.none left = AllPairs.none
  scanned (All.more {x = g} i is) (AllPairs.more {b = c} f fs) left = AllPairs.more (next_one g i left c f) (scanned is fs (left - 1))

  unspaced : {gs : List Group} {cs : List Cluster} → All (GroupIn fonts spans) gs → AllPairs (Formed fonts spans) gs cs → AllPairs Lettered cs (zip_with (exact_cluster fonts spans) gs cs)
  unfolding zip_with
  unspaced All.none AllPairs.none = AllPairs.none
  unspaced (All.more {x = g} i is) (AllPairs.more {b = c} f fs) = AllPairs.more (unspaced-one g i c f) (unspaced is fs)

  -- with step 4's own question whether any spacing is not zero
  pub lettered : {gs : List Group} {cs : List Cluster} → All (GroupIn fonts spans) gs → AllPairs (Formed fonts spans) gs cs
      → AllPairs Lettered (apply_letter_spacing rounded spans cs) (apply_letter_spacing exact spans (zip_with (exact_cluster fonts spans) gs (apply_letter_spacing rounded spans cs)))
  unfolding apply_letter_spacing
  lettered {gs} {cs} is fs = go (any (λ (s : Span). not (is_zero s.letter)) spans)
    where
      float : List Cluster
      float = scan (λ (left : ℕ) (c : Cluster). left - 1) (next_letter_spaced rounded spans) (length cs) cs

      fractions : ℕ → List ExactCluster → List ExactCluster
      fractions n qs = scan (λ (left : ℕ) (c : ExactCluster). left - 1) (next_letter_spaced exact spans) n qs

      as_long : length (zip_with (exact_cluster fonts spans) gs float) ≡ length cs
      as_long = length-zip (exact_cluster fonts spans) fs float (length-scan _ _ (length cs) cs)

      go : (b : Bool) → AllPairs Lettered (cond b float cs)
          (cond b (fractions (length (zip_with (exact_cluster fonts spans) gs (cond b float cs))) (zip_with (exact_cluster fonts spans) gs (cond b float cs))) (zip_with (exact_cluster fonts spans) gs (cond b float cs)))
      go true = subst (λ (n : ℕ). AllPairs Lettered float (fractions n (zip_with (exact_cluster fonts spans) gs float))) (sym as_long) (scanned is fs (length cs))
      go false = unspaced is fs

  -- ---- step 5

  abbrev pub Spaced : Cluster → ExactCluster → Type 0
  Spaced c q =
      GroupIn fonts spans q.group
      × Along D S K (glyph_part fonts spans K D q.group) (word_part fonts spans K D q.group) (spaced_cost (length q.group.glyphs) * word_part fonts spans K D q.group) c q

  module _ (text : List ℕ) (c : Cluster) (q : ExactCluster) (i : GroupIn fonts spans q.group)
      (a : Along D S K (glyph_part fonts spans K D q.group) (letter_part fonts spans K D q.group) ((9 * length q.group.glyphs + 28) * letter_part fonts spans K D q.group) c q) where
    abbrev word : Float
    word = (span_at spans q.group.span).word

    abbrev float_word : Cluster
    float_word = with_line c.width (add binary32 c.advance word) c.spacing c.x c.y c

    abbrev exact_word : ExactCluster
    exact_word = exact.with_advance (q.advance +ᵠ value_of word) q

    abbrev before : ℕ
    before = letter_part fonts spans K D q.group

    abbrev count : ℕ
    count = length q.group.glyphs

    word-is : word_spaced rounded text spans c ≡ cond (is_word_separator_at text q.group.first.index) float_word c
    unfolding word_spaced
    word-is =
        ap₂ (λ (n k : ℕ). cond (is_word_separator_at text n) (rounded.with_advance (add binary32 c.advance (span_at spans k).word) c) c) a.index a.span

    added : Track D S (K * 2) (add binary32 c.advance word) (q.advance +ᵠ value_of word) (before + size_of word * D) (spaced_cost count * (before + size_of word * D))
    added =
        track-weaken _ _ (le_refl (before + size_of word * D)) (cost before (size_of word * D) count)
        (track-add (before + size_of word * D) a.advance (track-input frame.scale (K * 2) _ word frame.is i.span.word) (le_refl (before + size_of word * D))
        (room before (size_of word * D) count i.few) (word_fits q.group i))
      where
        cost : (l w m : ℕ) → (9 * m + 28) * l + 0 + 9 * (l + w) ≤ spaced_cost m * (l + w)
        cost l w m = omega arith

        room : (l w m : ℕ) → m ≤ 1024 → (9 * m + 28) * l + 0 ≤ 2 ^ 24 * (l + w)
        room l w m h = omega (arith, mul-le-mul_right l h)

    kept_word : Track D S (K * 2) c.advance q.advance (before + size_of word * D) (spaced_cost count * (before + size_of word * D))
    kept_word = track-weaken _ _ (more before (size_of word * D)) (cost before (size_of word * D) count) a.advance
      where
        more : (l w : ℕ) → l ≤ l + w
        more l w = omega arith

        cost : (l w m : ℕ) → (9 * m + 28) * l ≤ spaced_cost m * (l + w)
        cost l w m = omega arith

    word-one : Spaced (word_spaced rounded text spans c) (word_spaced exact text spans q)
    unfolding word_spaced
    word-one = subst (λ (d : Cluster). Spaced d (word_spaced exact text spans q)) (sym word-is) (go (is_word_separator_at text q.group.first.index))
      where
        go : (b : Bool) → Spaced (cond b float_word c) (cond b exact_word q)
        go true =
            (i, record { index = a.index; tag = a.tag; span = a.span; collapsed = a.collapsed; width = a.width; advance = added; spacing = a.spacing; shift_x = a.shift_x; shift_y = a.shift_y })
        go false =
            (i, record { index = a.index; tag = a.tag; span = a.span; collapsed = a.collapsed; width = a.width; advance = kept_word; spacing = a.spacing; shift_x = a.shift_x; shift_y = a.shift_y })

    plain-one : Spaced c q
    plain-one =
        (i, record { index = a.index; tag = a.tag; span = a.span; collapsed = a.collapsed; width = a.width; advance = kept_word; spacing = a.spacing; shift_x = a.shift_x; shift_y = a.shift_y })

  all_words : (text : List ℕ) {cs : List Cluster} {qs : List ExactCluster} → AllPairs Lettered cs qs → AllPairs Spaced (map (word_spaced rounded text spans) cs) (map (word_spaced exact text spans) qs)
  all_words text AllPairs.none = AllPairs.none
  all_words text (AllPairs.more {a = c} {b = q} r rs) = AllPairs.more (word-one text c q r.0 r.1) (all_words text rs)

  no_words : (text : List ℕ) {cs : List Cluster} {qs : List ExactCluster} → AllPairs Lettered cs qs → AllPairs Spaced cs qs
  no_words text AllPairs.none = AllPairs.none
  no_words text (AllPairs.more {a = c} {b = q} r rs) = AllPairs.more (plain-one text c q r.0 r.1) (no_words text rs)

  pub spaced : (text : List ℕ) {cs : List Cluster} {qs : List ExactCluster} → AllPairs Lettered cs qs → AllPairs Spaced (apply_word_spacing rounded text spans cs) (apply_word_spacing exact text spans qs)
  unfolding apply_word_spacing
  spaced text {cs} {qs} rs = go (any (λ (s : Span). not (is_zero s.word)) spans)
    where
      go : (b : Bool) → AllPairs Spaced (cond b (map (word_spaced rounded text spans) cs) cs) (cond b (map (word_spaced exact text spans) qs) qs)
      go true = all_words text rs
      go false = no_words text rs
