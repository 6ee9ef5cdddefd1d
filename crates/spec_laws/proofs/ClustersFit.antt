-- The clusters fit their rows after each of steps 2 to 7, and no step makes more of them. Assumes nothing.
use Prim.Native.Nat.{ℕ, ◌^◌, ◌<◌}
use mathlib.Core.Bool.{not}
use mathlib.Core.List.{List, [], ◌∷◌}
use lib.ListN.{length, get_or}
use lib.Dec.{eqb, ltb}
use lib.Ieee.{Float, binary32, lt}
use lib.Ieee.Fits.{add-fits, mul-fits, div-fits, neg-fits}
use Rattle.spec_laws.proofs.All.{all_get_d, fold-keeps, cond-keeps}
use Rattle.spec_laws.proofs.Few.{Few, few-map, few-scan, few-modify, few-modifies}
use Rattle.spec_laws.proofs.ReadBack.{Fits}
use Rattle.spec_laws.proofs.GroupsKeep.{groups-keep}
use Rattle.spec_laws.proofs.FitCluster.{FitCluster, FitClusters, zero-fits, line-fits, height-fits, scale-fits, marks-fit, collapsed-fits, advance-fits, shift_fits}
use Rattle.spec.specs.Outcome.{Outcome, refused, given, IfGiven}
use Rattle.spec.specs.Lists.{any, all, get_map_or, All}
use Rattle.spec.specs.Single.{+0, is_zero, thousandth}
use Rattle.spec.specs.declared.Font.{Font}
use Rattle.spec.specs.declared.Span.{Span}
use Rattle.spec.specs.declared.Glyph.{Glyph}
use Rattle.spec.specs.Job.{Job, Chunk, limits, spans_of, has_length, adjust_spacing_and_glyphs, top_to_bottom}
use Rattle.spec.specs.Group.{Group}
use Rattle.spec.specs.Script.{script_supports_letter_spacing, is_word_separator_at}
use Rattle.spec.specs.Arithmetic.{glyph_advance, sum_advance, max_advance, indexes}
use Rattle.spec.specs.LetterSpacing.{collapse_if_empty, letter_spaced, next_letter_spaced, apply_letter_spacing}
use Rattle.spec.specs.WordSpacing.{word_spaced, apply_word_spacing}
use Rattle.spec.specs.LengthAdjust.{cluster_indexes, sum_at, spacing_factor, taken_of, stretched_by, adjust_spacing_of, width_of, scaled_by, adjust_glyphs_of, adjust_span, apply_length_adjust}
use Rattle.spec.specs.Position.{Entry, Shifting, logical_order, character_number, shift_next, resolve_relative_shifts, rotate_shift, rotate_shifts, placed_from, positioned, marked, marked_by, mark_relative_shifts}
use Rattle.spec.specs.ClusterParts.{with_scale}
use Rattle.spec.specs.declared.Cluster.{Cluster}
use Rattle.spec.specs.Cluster.{rounded, form_glyph_clusters}
use Rattle.spec.specs.WritingMode.{vertical_metrics, apply_writing_mode}
use Rattle.spec.specs.Layout.{letter_spaced_clusters, adjusted_clusters, resolve_clusters_positions_horizontal}

-- ---- step 2

sum_fits : (fonts : List Font) (size : Float) (gs : List Glyph) → Fits (sum_advance rounded fonts size gs)
unfolding sum_advance
sum_fits fonts size gs = fold-keeps Fits _ (λ a g p. add-fits binary32 _ _) +0 zero-fits gs

max-fits : (fonts : List Font) (size : Float) (gs : List Glyph) → Fits (max_advance rounded fonts size gs)
unfolding max_advance
max-fits fonts size gs = fold-keeps Fits _ (λ w g p. cond-keeps Fits (lt w (glyph_advance rounded fonts size g)) (mul-fits binary32 _ _) p) +0 zero-fits gs

formed-fits : (fonts : List Font) (spans : List Span) (g : Group) → g.first.index < 256 ^ 2 → FitCluster (form_glyph_clusters fonts spans g)
unfolding form_glyph_clusters
formed-fits fonts spans g i =
    record {
      index = i;
      width = max-fits fonts _ g.glyphs;
      advance = sum_fits fonts _ g.glyphs;
      spacing = zero-fits;
      ascent = mul-fits binary32 _ _;
      descent = mul-fits binary32 _ _;
      nudge = zero-fits;
      scale = zero-fits;
      x = zero-fits;
      y = zero-fits;
      angle = zero-fits;
    }

-- ---- step 3

turned-fits : (c : Cluster) → FitCluster c → FitCluster (vertical_metrics c)
unfolding vertical_metrics
turned-fits c h =
    cond-keeps FitCluster c.upright (height-fits c h (div-fits binary32 _ _) (div-fits binary32 _ _) (div-fits binary32 _ _))
    (height-fits c h h.ascent h.descent (div-fits binary32 _ _))

writing-fits : (mode : ℕ) {cs : List Cluster} → FitClusters cs → FitClusters (apply_writing_mode mode cs)
unfolding apply_writing_mode
writing-fits mode k = cond-keeps FitClusters (eqb mode top_to_bottom) (few-map FitCluster vertical_metrics turned-fits k) k

-- ---- steps 4 and 5

settled-fits : (c : Cluster) → FitCluster c → FitCluster (collapse_if_empty rounded c)
unfolding collapse_if_empty
settled-fits c h = cond-keeps FitCluster (rounded.collapses c) (collapsed-fits c h) h

spaced-fits : (spans : List Span) (left : ℕ) (c : Cluster) → FitCluster c → FitCluster (next_letter_spaced rounded spans left c)
unfolding next_letter_spaced letter_spaced
spaced-fits spans left c h =
    cond-keeps FitCluster (script_supports_letter_spacing c.tag) (settled-fits _ (cond-keeps FitCluster (eqb left 1) h (advance-fits c h (add-fits binary32 _ _)))) h

letter-fits : (spans : List Span) {cs : List Cluster} → FitClusters cs → FitClusters (apply_letter_spacing rounded spans cs)
unfolding apply_letter_spacing
letter-fits spans {cs} k =
    cond-keeps FitClusters (any (λ (s : Span). not (is_zero s.letter)) spans) (few-scan _ (next_letter_spaced rounded spans) (spaced-fits spans) (length cs) k) k

word_fits : (text : List ℕ) (spans : List Span) {cs : List Cluster} → FitClusters cs → FitClusters (apply_word_spacing rounded text spans cs)
unfolding apply_word_spacing word_spaced
word_fits text spans k = cond-keeps FitClusters (any (λ (s : Span). not (is_zero s.word)) spans) (few-map FitCluster (word_spaced rounded text spans) one k) k
  where
    one : (c : Cluster) → FitCluster c → FitCluster (word_spaced rounded text spans c)
    one c h = cond-keeps FitCluster (is_word_separator_at text c.index) (advance-fits c h (add-fits binary32 _ _)) h

-- ---- step 6

stretched-fits : (s : Span) (factor : Float) → Fits factor → (c : Cluster) → FitCluster c → FitCluster (stretched_by rounded s factor c)
stretched-fits s factor f c h = line-fits c h h.width (add-fits binary32 _ _) f h.x h.y

factor-fits : (target sum : Float) (n : ℕ) → Fits (spacing_factor rounded target sum n)
unfolding spacing_factor
factor-fits target sum n = cond-keeps Fits (ltb 1 n) (div-fits binary32 _ _) zero-fits

spacing-fits : (s : Span) {cs : List Cluster} → FitClusters cs → FitClusters (adjust_spacing_of rounded s cs)
unfolding adjust_spacing_of
spacing-fits s {cs} k =
    let is = cluster_indexes rounded s cs in
    few-modifies _ (stretched-fits s _ (factor-fits s.length (sum_at rounded (taken_of rounded s) cs is) (length is))) is k

scaled_fits : (factor : Float) → Fits factor → {cs : List Cluster} (is : List ℕ) → FitClusters cs → FitClusters (scaled_by factor cs is)
unfolding scaled_by
scaled_fits factor f is k = cond-keeps FitClusters (lt factor thousandth) k (few-modifies (with_scale factor) (λ c h. scale-fits c h f) is k)

abbrev FitOutcome : Outcome (List Cluster) → Type 0
FitOutcome = IfGiven FitClusters

glyphs-fit : (s : Span) {cs : List Cluster} (is : List ℕ) → FitClusters cs → FitOutcome (adjust_glyphs_of s cs is)
unfolding adjust_glyphs_of
glyphs-fit s [] k = k
glyphs-fit s {cs} (i ∷ is) k =
    cond-keeps FitOutcome (all (λ (j : ℕ). is_zero (get_map_or +0 width_of cs j)) (i ∷ is)) tt (scaled_fits _ (div-fits binary32 _ _) (i ∷ is) k)

span_fits : (o : Outcome (List Cluster)) (s : Span) → FitOutcome o → FitOutcome (adjust_span o s)
unfolding adjust_span
span_fits (refused n) s k = tt
span_fits (given cs) s k =
    cond-keeps FitOutcome (has_length s) (cond-keeps FitOutcome (eqb s.adjust adjust_spacing_and_glyphs) (glyphs-fit s _ k) (spacing-fits s k)) k

pub adjusted-fit : (job : Job) (c : Chunk) {gs : List Glyph} → Few (λ g. g.index < 256 ^ 2) limits.merged gs → FitOutcome (adjusted_clusters job c gs)
unfolding adjusted_clusters letter_spaced_clusters apply_length_adjust
adjusted-fit job c k =
    let spans = spans_of c in
    let formed = few-map FitCluster (form_glyph_clusters job.fonts spans) (λ g h. formed-fits job.fonts spans g h.first) (groups-keep _ spans limits.merged k) in
    fold-keeps FitOutcome adjust_span span_fits _ (word_fits c.text spans (letter-fits spans (writing-fits job.mode formed))) spans

-- ---- step 7

shifted-fit : (job : Job) (text : List ℕ) (offset : ℕ) {cs : List Cluster} → FitClusters cs → FitClusters (resolve_relative_shifts rounded job text offset cs)
unfolding resolve_relative_shifts shift_next
shifted-fit job text offset {cs} k = fold-keeps (λ st. FitClusters st.clusters) (shift_next rounded job text offset) one _ k (logical_order (indexes rounded cs))
  where
    one : (st : Shifting Float Cluster) (e : Entry) → FitClusters st.clusters → FitClusters (shift_next rounded job text offset st e).clusters
    one st e h = few-modify _ (λ c f. shift_fits c f (add-fits binary32 _ _) (add-fits binary32 _ _)) e.place h

turned-shifts-fit : (mode : ℕ) {cs : List Cluster} → FitClusters cs → FitClusters (rotate_shifts rounded mode cs)
unfolding rotate_shifts rotate_shift
turned-shifts-fit mode k =
    cond-keeps FitClusters (eqb mode top_to_bottom) (few-map FitCluster (rotate_shift rounded) (λ c h. shift_fits c h h.y (neg-fits binary32 c.x h.x)) k) k

mark-fits : (job : Job) (text : List ℕ) (offset : ℕ) → All Fits job.rotate → (before c : Cluster) → FitCluster c → FitCluster (marked job text offset before c)
unfolding marked marked_by
mark-fits job text offset r before c h =
    let n = character_number text offset c.index in
    marks-fit c h _ _ (cond-keeps Fits (not (is_zero (get_or job.rotate n +0))) (all_get_d n +0 zero-fits r) zero-fits)

marked-fit : (job : Job) (text : List ℕ) (offset : ℕ) (cs : List Cluster) → All Fits job.rotate → FitClusters cs → FitClusters (mark_relative_shifts job text offset cs)
unfolding mark_relative_shifts
marked-fit job text offset [] r k = k
marked-fit job text offset (c ∷ cs) r k = few-scan _ (marked job text offset) (mark-fits job text offset r) c k

placed-fit : (p : Float) {cs : List Cluster} → FitClusters cs → FitClusters (placed_from rounded p cs)
unfolding placed_from
placed-fit p k = few-scan _ _ (λ q c h. shift_fits c h (add-fits binary32 _ _) h.y) p k

pub positioned-fit : (job : Job) (offset : ℕ) (c : Chunk) {cs : List Cluster} → All Fits job.rotate → FitClusters cs
    → FitClusters (resolve_clusters_positions_horizontal job offset c cs).clusters
unfolding resolve_clusters_positions_horizontal positioned
positioned-fit job offset c r k =
    placed-fit _ (marked-fit job c.text offset _ r (turned-shifts-fit job.mode (shifted-fit job c.text offset k)))
