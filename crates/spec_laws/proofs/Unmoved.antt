-- Steps 2 to 6 move no cluster: behind them none has a shift, an angle or a mark. Assumes nothing.
use Prim.Native.Nat.{ℕ}
use mathlib.Core.Path.{◌≡◌, refl}
use mathlib.Core.Bool.{not}
use mathlib.Core.List.{List, [], ◌∷◌, map, foldl}
use lib.ListN.{length}
use lib.Dec.{eqb}
use lib.Ieee.{Float, lt}
use Rattle.spec_laws.specs.Unmoved.{Unmoved}
use Rattle.spec_laws.proofs.All.{all_map, all-scan, all-modify, fold-keeps, cond-keeps}
use Rattle.spec_laws.proofs.IfGiven.{of-given}
use Rattle.spec.specs.Outcome.{Outcome, refused, given, IfGiven}
use Rattle.spec.specs.Lists.{any, all, get_map_or, modify, All}
use Rattle.spec.specs.Single.{+0, is_zero, thousandth}
use Rattle.spec.specs.declared.Font.{Font}
use Rattle.spec.specs.declared.Span.{Span}
use Rattle.spec.specs.declared.Glyph.{Glyph}
use Rattle.spec.specs.Job.{Job, Chunk, spans_of, has_length, adjust_spacing_and_glyphs, top_to_bottom}
use Rattle.spec.specs.Group.{Group, groups}
use Rattle.spec.specs.Script.{script_supports_letter_spacing, is_word_separator_at}
use Rattle.spec.specs.LetterSpacing.{collapse_if_empty, letter_spaced, next_letter_spaced, apply_letter_spacing}
use Rattle.spec.specs.WordSpacing.{word_spaced, apply_word_spacing}
use Rattle.spec.specs.LengthAdjust.{cluster_indexes, adjust_spacing_of, width_of, scaled_by, adjust_glyphs_of, adjust_span, apply_length_adjust}
use Rattle.spec.specs.ClusterParts.{with_scale}
use Rattle.spec.specs.declared.Cluster.{Cluster}
use Rattle.spec.specs.Cluster.{rounded, form_glyph_clusters}
use Rattle.spec.specs.WritingMode.{vertical_metrics, apply_writing_mode}
use Rattle.spec.specs.Layout.{letter_spaced_clusters, adjusted_clusters}

-- ---- step 2

formed-unmoved : (fonts : List Font) (spans : List Span) (gs : List Group) → All Unmoved (map (form_glyph_clusters fonts spans) gs)
unfolding form_glyph_clusters
formed-unmoved fonts spans [] = All.none
formed-unmoved fonts spans (g ∷ gs) = All.more (refl, refl, refl, refl, refl) (formed-unmoved fonts spans gs)

-- ---- steps 3, 4 and 5

writing-unmoved : (mode : ℕ) {cs : List Cluster} → All Unmoved cs → All Unmoved (apply_writing_mode mode cs)
unfolding apply_writing_mode vertical_metrics
writing-unmoved mode k = cond-keeps (All Unmoved) (eqb mode top_to_bottom) (all_map Unmoved vertical_metrics (λ c h. cond-keeps Unmoved c.upright h h) k) k

settled-unmoved : (c : Cluster) → Unmoved c → Unmoved (collapse_if_empty rounded c)
unfolding collapse_if_empty
settled-unmoved c h = cond-keeps Unmoved (rounded.collapses c) h h

spaced-unmoved : (spans : List Span) (left : ℕ) (c : Cluster) → Unmoved c → Unmoved (next_letter_spaced rounded spans left c)
unfolding next_letter_spaced letter_spaced
spaced-unmoved spans left c h =
    cond-keeps Unmoved (script_supports_letter_spacing c.tag) (settled-unmoved _ (cond-keeps Unmoved (eqb left 1) h h)) h

letter-unmoved : (spans : List Span) {cs : List Cluster} → All Unmoved cs → All Unmoved (apply_letter_spacing rounded spans cs)
unfolding apply_letter_spacing
letter-unmoved spans {cs} k =
    cond-keeps (All Unmoved) (any (λ (s : Span). not (is_zero s.letter)) spans) (all-scan _ (next_letter_spaced rounded spans) (spaced-unmoved spans) (length cs) k) k

word-unmoved : (text : List ℕ) (spans : List Span) {cs : List Cluster} → All Unmoved cs → All Unmoved (apply_word_spacing rounded text spans cs)
unfolding apply_word_spacing word_spaced
word-unmoved text spans k =
    cond-keeps (All Unmoved) (any (λ (s : Span). not (is_zero s.word)) spans)
    (all_map Unmoved (word_spaced rounded text spans) (λ c h. cond-keeps Unmoved (is_word_separator_at text c.index) h h) k) k

-- ---- step 6

-- at several places, one after the other
modified-unmoved : (f : Cluster → Cluster) → ((c : Cluster) → Unmoved c → Unmoved (f c)) → {cs : List Cluster} (is : List ℕ) → All Unmoved cs → All Unmoved (foldl (modify f) cs is)
modified-unmoved f h {cs} is k = fold-keeps (All Unmoved) (modify f) (λ ds i q. all-modify f h q i) cs k is

spacing-unmoved : (s : Span) {cs : List Cluster} → All Unmoved cs → All Unmoved (adjust_spacing_of rounded s cs)
unfolding adjust_spacing_of
spacing-unmoved s {cs} k = modified-unmoved _ (λ c h. h) (cluster_indexes rounded s cs) k

scaled-unmoved : (factor : Float) {cs : List Cluster} (is : List ℕ) → All Unmoved cs → All Unmoved (scaled_by factor cs is)
unfolding scaled_by
scaled-unmoved factor is k = cond-keeps (All Unmoved) (lt factor thousandth) k (modified-unmoved (with_scale factor) (λ c h. h) is k)

glyphs-unmoved : (s : Span) {cs : List Cluster} (is : List ℕ) → All Unmoved cs → IfGiven (All Unmoved) (adjust_glyphs_of s cs is)
unfolding adjust_glyphs_of
glyphs-unmoved s [] k = k
glyphs-unmoved s {cs} (i ∷ is) k =
    cond-keeps (IfGiven (All Unmoved)) (all (λ (j : ℕ). is_zero (get_map_or +0 width_of cs j)) (i ∷ is)) tt (scaled-unmoved _ (i ∷ is) k)

span-unmoved : (o : Outcome (List Cluster)) (s : Span) → IfGiven (All Unmoved) o → IfGiven (All Unmoved) (adjust_span o s)
unfolding adjust_span
span-unmoved (refused n) s k = tt
span-unmoved (given cs) s k =
    cond-keeps (IfGiven (All Unmoved)) (has_length s) (cond-keeps (IfGiven (All Unmoved)) (eqb s.adjust adjust_spacing_and_glyphs) (glyphs-unmoved s _ k) (spacing-unmoved s k)) k

pub adjusted-unmoved : (job : Job) (c : Chunk) (gs : List Glyph) (cs : List Cluster) → adjusted_clusters job c gs ≡ given cs → All Unmoved cs
unfolding adjusted_clusters letter_spaced_clusters apply_length_adjust
adjusted-unmoved job c gs cs e =
    let spans = spans_of c in
    let worded = word-unmoved c.text spans (letter-unmoved spans (writing-unmoved job.mode (formed-unmoved job.fonts spans (groups spans gs)))) in
    of-given (All Unmoved) (adjusted_clusters job c gs) cs (fold-keeps (IfGiven (All Unmoved)) adjust_span span-unmoved _ worded spans) e
