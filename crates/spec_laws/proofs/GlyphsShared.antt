-- The clusters of a chunk share the merged glyphs: after each of steps 2 to 7 they have no more glyphs than the merged list, and there are no
-- more clusters. Assumes nothing.
use Prim.Native.Nat.{ℕ, suc, ◌+◌, ◌≤◌}
use mathlib.Core.Path.{◌≡◌, refl, ap, ◌∙◌}
use mathlib.Core.Bool.{not}
use mathlib.Core.List.{List, [], ◌∷◌, map, foldl}
use native.Mathlib.Nat.{le_refl}
use native.Mathlib.Omega.{arith}
use lib.ListN.{length, length-map}
use lib.Dec.{eqb, ltb}
use lib.Ieee.{Float, lt}
use Rattle.spec_laws.proofs.All.{fold-keeps, cond-keeps}
use Rattle.spec_laws.proofs.Few.{length-modify}
use Rattle.spec_laws.proofs.AsMany.{length-scan}
use Rattle.spec_laws.proofs.IfGiven.{of-given}
use Rattle.spec_laws.proofs.Sums.{total, total-map, total-scan, total-modify}
use Rattle.spec.specs.Outcome.{Outcome, refused, given, IfGiven}
use Rattle.spec.specs.Lists.{any, all, get_map_or, modify, scan}
use Rattle.spec.specs.Single.{+0, is_zero, thousandth}
use Rattle.spec.specs.declared.Font.{Font}
use Rattle.spec.specs.declared.Span.{Span}
use Rattle.spec.specs.declared.Glyph.{Glyph}
use Rattle.spec.specs.Job.{Job, Chunk, spans_of, has_length, adjust_spacing_and_glyphs, top_to_bottom}
use Rattle.spec.specs.Group.{Group, chunk_span_at, join_run, glyph_runs, covered_runs, groups}
use Rattle.spec.specs.Script.{script_supports_letter_spacing, is_word_separator_at}
use Rattle.spec.specs.Arithmetic.{indexes}
use Rattle.spec.specs.LetterSpacing.{collapse_if_empty, letter_spaced, next_letter_spaced, apply_letter_spacing}
use Rattle.spec.specs.WordSpacing.{word_spaced, apply_word_spacing}
use Rattle.spec.specs.LengthAdjust.{cluster_indexes, adjust_spacing_of, width_of, scaled_by, adjust_glyphs_of, adjust_span, apply_length_adjust}
use Rattle.spec.specs.Position.{Entry, Shifting, logical_order, shift_next, resolve_relative_shifts, rotate_shift, rotate_shifts, placed_from, positioned, marked, marked_by, mark_relative_shifts}
use Rattle.spec.specs.ClusterParts.{with_scale}
use Rattle.spec.specs.declared.Cluster.{Cluster}
use Rattle.spec.specs.Cluster.{rounded, form_glyph_clusters}
use Rattle.spec.specs.WritingMode.{vertical_metrics, apply_writing_mode}
use Rattle.spec.specs.Layout.{letter_spaced_clusters, adjusted_clusters, resolve_clusters_positions_horizontal}

-- ---- the groups of a merged list

-- the glyphs of some runs, and of some groups
abbrev run_glyphs : List (List Glyph) → ℕ
run_glyphs = total length

abbrev pub group_glyphs : List Group → ℕ
group_glyphs = total (λ (g : Group). length g.glyphs)

join-glyphs : (g : Glyph) (runs : List (List Glyph)) → run_glyphs (join_run g runs) ≡ suc (run_glyphs runs)
unfolding join_run
join-glyphs g [] = refl
join-glyphs g ([] ∷ runs) = omega arith
join-glyphs g ((h ∷ hs) ∷ runs) =
    cond-keeps (λ (rs : List (List Glyph)). run_glyphs rs ≡ suc (suc (length hs) + run_glyphs runs)) (eqb g.index h.index) (omega arith) (omega arith)

-- every glyph is in one run
runs-glyphs : (gs : List Glyph) → run_glyphs (glyph_runs gs) ≡ length gs
unfolding glyph_runs
runs-glyphs [] = refl
runs-glyphs (g ∷ gs) = join-glyphs g (glyph_runs gs) ∙ ap suc (runs-glyphs gs)

-- at most n groups, with at most n glyphs in all
pub record SharedGroups (n : ℕ) (gs : List Group) : Type 0 where
  pub glyphs : group_glyphs gs ≤ n
  pub few : length gs ≤ n

covered-share : (spans : List Span) (from : ℕ) (runs : List (List Glyph)) → SharedGroups (run_glyphs runs) (covered_runs spans from runs)
unfolding covered_runs
covered-share spans from [] = record { glyphs = le_refl 0; few = le_refl 0 }
covered-share spans from ([] ∷ runs) = let r = covered-share spans from runs in record { glyphs = omega arith; few = omega arith }
covered-share spans from ((g ∷ gs) ∷ runs) =
    let r = covered-share spans (from + length (g ∷ gs)) runs in
    cond-keeps (SharedGroups (suc (length gs) + run_glyphs runs)) (ltb (chunk_span_at spans g.index) (length spans)) (record { glyphs = omega arith; few = omega arith })
    (record { glyphs = omega arith; few = omega arith })

pub groups-share : (spans : List Span) (gs : List Glyph) → SharedGroups (length gs) (groups spans gs)
unfolding groups
groups-share spans gs =
    let r = covered-share spans 0 (glyph_runs gs) in
    record { glyphs = omega (arith, runs-glyphs gs, r.glyphs); few = omega (arith, runs-glyphs gs, r.few) }

-- ---- clusters

abbrev pub cluster_glyphs : List Cluster → ℕ
cluster_glyphs = total (λ (c : Cluster). c.count)

-- at most m clusters, with at most n glyphs in all
pub record Shared (n m : ℕ) (cs : List Cluster) : Type 0 where
  pub glyphs : cluster_glyphs cs ≤ n
  pub few : length cs ≤ m

-- the cluster d has no more glyphs than c
abbrev NoMore : Cluster → Cluster → Type 0
NoMore c d = d.count ≤ c.count

module _ {n m : ℕ} where
  shared-map : (f : Cluster → Cluster) → ((c : Cluster) → NoMore c (f c)) → {cs : List Cluster} → Shared n m cs → Shared n m (map f cs)
  shared-map f h {cs} k =
      record {
        glyphs = let t = total-map (λ (c : Cluster). c.count) (λ (c : Cluster). c.count) f h cs in let g = k.glyphs in omega arith;
        few = rw (length-map cs f) k.few;
      }

  shared-scan : {S : Type 0} (next : S → Cluster → S) (f : S → Cluster → Cluster) → ((s : S) (c : Cluster) → NoMore c (f s c)) → (s : S) {cs : List Cluster} → Shared n m cs
      → Shared n m (scan next f s cs)
  shared-scan next f h s {cs} k =
      record {
        glyphs = let t = total-scan (λ (c : Cluster). c.count) next f h s cs in let g = k.glyphs in omega arith;
        few = rw (length-scan next f s cs) k.few;
      }

  shared-modify : (f : Cluster → Cluster) → ((c : Cluster) → NoMore c (f c)) → {cs : List Cluster} (i : ℕ) → Shared n m cs → Shared n m (modify f cs i)
  shared-modify f h {cs} i k =
      record {
        glyphs = let t = total-modify (λ (c : Cluster). c.count) f h cs i in let g = k.glyphs in omega arith;
        few = rw (length-modify f cs i) k.few;
      }

  -- at several places, one after the other
  shared-modifies : (f : Cluster → Cluster) → ((c : Cluster) → NoMore c (f c)) → {cs : List Cluster} (is : List ℕ) → Shared n m cs → Shared n m (foldl (modify f) cs is)
  shared-modifies f h {cs} is k = fold-keeps (Shared n m) (modify f) (λ ys i q. shared-modify f h i q) cs k is

-- ---- step 2

formed-share : (fonts : List Font) (spans : List Span) (gs : List Glyph) → Shared (length gs) (length gs) (map (form_glyph_clusters fonts spans) (groups spans gs))
unfolding form_glyph_clusters
formed-share fonts spans gs =
    let r = groups-share spans gs in
    let form = form_glyph_clusters fonts spans in
    record {
      glyphs =
          let t = total-map (λ (c : Cluster). c.count) (λ (g : Group). length g.glyphs) form (λ g. le_refl (length g.glyphs)) (groups spans gs) in
          let g = r.glyphs in omega arith;
      few = rw (length-map (groups spans gs) form) r.few;
    }

-- ---- steps 3, 4 and 5

settled-shares : (c d : Cluster) → NoMore c d → NoMore c (collapse_if_empty rounded d)
unfolding collapse_if_empty
settled-shares c d h = cond-keeps (NoMore c) (rounded.collapses d) (omega arith) h

spaced-shares : (spans : List Span) (left : ℕ) (c : Cluster) → NoMore c (next_letter_spaced rounded spans left c)
unfolding next_letter_spaced letter_spaced
spaced-shares spans left c =
    cond-keeps (NoMore c) (script_supports_letter_spacing c.tag) (settled-shares c _ (cond-keeps (NoMore c) (eqb left 1) (le_refl _) (le_refl _))) (le_refl _)

module _ {n m : ℕ} where
  writing-shares : (mode : ℕ) {cs : List Cluster} → Shared n m cs → Shared n m (apply_writing_mode mode cs)
  unfolding apply_writing_mode vertical_metrics
  writing-shares mode k = cond-keeps (Shared n m) (eqb mode top_to_bottom) (shared-map vertical_metrics (λ c. cond-keeps (NoMore c) c.upright (le_refl _) (le_refl _)) k) k

  letter-shares : (spans : List Span) {cs : List Cluster} → Shared n m cs → Shared n m (apply_letter_spacing rounded spans cs)
  unfolding apply_letter_spacing
  letter-shares spans {cs} k =
      cond-keeps (Shared n m) (any (λ (s : Span). not (is_zero s.letter)) spans) (shared-scan _ (next_letter_spaced rounded spans) (spaced-shares spans) (length cs) k) k

  word-shares : (text : List ℕ) (spans : List Span) {cs : List Cluster} → Shared n m cs → Shared n m (apply_word_spacing rounded text spans cs)
  unfolding apply_word_spacing word_spaced
  word-shares text spans k =
      cond-keeps (Shared n m) (any (λ (s : Span). not (is_zero s.word)) spans)
      (shared-map (word_spaced rounded text spans) (λ c. cond-keeps (NoMore c) (is_word_separator_at text c.index) (le_refl _) (le_refl _)) k) k

  -- ---- step 6

  spacing-shares : (s : Span) {cs : List Cluster} → Shared n m cs → Shared n m (adjust_spacing_of rounded s cs)
  unfolding adjust_spacing_of
  spacing-shares s {cs} k = shared-modifies _ (λ c. le_refl _) (cluster_indexes rounded s cs) k

  scaled-shares : (factor : Float) {cs : List Cluster} (is : List ℕ) → Shared n m cs → Shared n m (scaled_by factor cs is)
  unfolding scaled_by
  scaled-shares factor is k = cond-keeps (Shared n m) (lt factor thousandth) k (shared-modifies (with_scale factor) (λ c. le_refl _) is k)

  stretched-shares : (s : Span) {cs : List Cluster} (is : List ℕ) → Shared n m cs → IfGiven (Shared n m) (adjust_glyphs_of s cs is)
  unfolding adjust_glyphs_of
  stretched-shares s [] k = k
  stretched-shares s {cs} (i ∷ is) k =
      cond-keeps (IfGiven (Shared n m)) (all (λ (j : ℕ). is_zero (get_map_or +0 width_of cs j)) (i ∷ is)) tt (scaled-shares _ (i ∷ is) k)

span-shares : (n m : ℕ) (o : Outcome (List Cluster)) (s : Span) → IfGiven (Shared n m) o → IfGiven (Shared n m) (adjust_span o s)
unfolding adjust_span
span-shares n m (refused number) s k = tt
span-shares n m (given cs) s k =
    cond-keeps (IfGiven (Shared n m)) (has_length s) (cond-keeps (IfGiven (Shared n m)) (eqb s.adjust adjust_spacing_and_glyphs) (stretched-shares s _ k) (spacing-shares s k)) k

pub adjusted-share : (job : Job) (c : Chunk) (gs : List Glyph) → IfGiven (Shared (length gs) (length gs)) (adjusted_clusters job c gs)
unfolding adjusted_clusters letter_spaced_clusters apply_length_adjust
adjusted-share job c gs =
    let spans = spans_of c in
    fold-keeps (IfGiven (Shared (length gs) (length gs))) adjust_span (span-shares (length gs) (length gs)) _
    (word-shares c.text spans (letter-shares spans (writing-shares job.mode (formed-share job.fonts spans gs)))) spans

-- after step 6 the clusters have at most the merged glyphs
pub glyphs-shared : (job : Job) (c : Chunk) (gs : List Glyph) (cs : List Cluster) → adjusted_clusters job c gs ≡ given cs → cluster_glyphs cs ≤ length gs
glyphs-shared job c gs cs e = (of-given (Shared (length gs) (length gs)) (adjusted_clusters job c gs) cs (adjusted-share job c gs) e).glyphs

-- ---- step 7

module _ {n m : ℕ} where
  shifted-shares : (job : Job) (text : List ℕ) (offset : ℕ) {cs : List Cluster} → Shared n m cs → Shared n m (resolve_relative_shifts rounded job text offset cs)
  unfolding resolve_relative_shifts shift_next
  shifted-shares job text offset {cs} k = fold-keeps (λ st. Shared n m st.clusters) (shift_next rounded job text offset) one _ k (logical_order (indexes rounded cs))
    where
      one : (st : Shifting Float Cluster) (e : Entry) → Shared n m st.clusters → Shared n m (shift_next rounded job text offset st e).clusters
      one st e h = shared-modify _ (λ c. le_refl _) e.place h

  turns-share : (mode : ℕ) {cs : List Cluster} → Shared n m cs → Shared n m (rotate_shifts rounded mode cs)
  unfolding rotate_shifts rotate_shift
  turns-share mode k = cond-keeps (Shared n m) (eqb mode top_to_bottom) (shared-map (rotate_shift rounded) (λ c. le_refl _) k) k

  marks-share : (job : Job) (text : List ℕ) (offset : ℕ) (cs : List Cluster) → Shared n m cs → Shared n m (mark_relative_shifts job text offset cs)
  unfolding mark_relative_shifts marked marked_by
  marks-share job text offset [] k = k
  marks-share job text offset (c ∷ cs) k = shared-scan _ (marked job text offset) (λ before d. le_refl _) c k

  placed-share : (p : Float) {cs : List Cluster} → Shared n m cs → Shared n m (placed_from rounded p cs)
  unfolding placed_from
  placed-share p k = shared-scan _ _ (λ q c. le_refl _) p k

  pub positioned-share : (job : Job) (offset : ℕ) (c : Chunk) {cs : List Cluster} → Shared n m cs → Shared n m (resolve_clusters_positions_horizontal job offset c cs).clusters
  unfolding resolve_clusters_positions_horizontal positioned
  positioned-share job offset c k = placed-share _ (marks-share job c.text offset _ (turns-share job.mode (shifted-shares job c.text offset k)))
