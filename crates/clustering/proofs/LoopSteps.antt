-- One turn of the loops that form and count the clusters of a chunk, and their end. Assumes nothing.
use Prim.Native.Nat.{ℕ, ◌+◌, ◌≤◌, ◌<◌}
use mathlib.Core.Path.{◌≡◌, refl, ap, ◌∙◌}
use mathlib.Core.Bool.{Bool, true}
use mathlib.Core.List.{List, [], ◌∷◌, ◌++◌, append-nil, map, map-append}
use native.Mathlib.Numerals.{add-one}
use native.Mathlib.Omega.{arith}
use lib.ListN.{length, take, drop, set}
use lib.Seq.{append_snoc, take-suc-set}
use borrow.Author.Tests.{lt-ltb, le-ltb}
use Rattle.spec.specs.declared.Cluster.{Cluster}
use Rattle.spec.specs.declared.Glyph.{Glyph}
use Rattle.spec.specs.declared.Span.{Span}
use Rattle.spec.specs.Lists.{all}
use Rattle.spec.specs.Group.{Group, chunk_span_at, glyph_runs, covered_runs, groups}
use Rattle.spec.specs.Arithmetic.{indexes}
use Rattle.spec.specs.Cluster.{rounded}
use Rattle.job_rows.specs.Rows.{spans_in, glyphs_at}
use Rattle.clustering.specs.Groups.{glyph_in, group_in, clusters_in}
use Rattle.clustering.proofs.Passing.{all_push}
use Rattle.clustering.proofs.FirstRun.{run_length}
use Rattle.clustering.proofs.Glyphs.{spans-length}
use Rattle.clustering.proofs.NextRun.{run-glyphs, runs-next, run-behind, runs-end}

-- ---- the first of the runs that are left: kept if a span covers it

module _ (spans : List Span) (from k : ℕ) {g : Glyph} {run gs : List Glyph} (runs : List (List Glyph))
    (e : run ≡ g ∷ gs) (is-span : k ≡ chunk_span_at spans g.index) where
  covered-kept : k < length spans
      → covered_runs spans from (run ∷ runs) ≡ record { from = from; first = g; glyphs = run; span = k } ∷ covered_runs spans (from + length run) runs
  unfolding covered_runs
  covered-kept h = rw (e, ← is-span, lt-ltb k (length spans) h)

  covered-passed : length spans ≤ k → covered_runs spans from (run ∷ runs) ≡ covered_runs spans (from + length run) runs
  unfolding covered_runs
  covered-passed h = rw (e, ← is-span, le-ltb k (length spans) h)

-- ---- the groups of the glyphs from place i on

module _ (s places merged : List ℕ) where
  abbrev pub groups_from : ℕ → List Group
  groups_from i = covered_runs (spans_in s places) i (glyph_runs (drop i (glyphs_at s merged)))

  pub groups-start : groups_from 0 ≡ groups (spans_in s places) (glyphs_at s merged)
  unfolding groups
  groups-start = refl

  pub groups-end : (i : ℕ) → length merged ≤ i → groups_from i ≡ []
  unfolding covered_runs
  groups-end i h = rw (runs-end s merged i h)

  -- n groups are passed, and those from i on are left
  abbrev pub Counted : ℕ → ℕ → Type 0
  Counted n i = n + length (groups_from i) ≡ clusters_in s places merged

  pub groups-all : (n i : ℕ) → Counted n i → groups_from i ≡ [] → n ≡ clusters_in s places merged
  groups-all n i counted e = omega (arith, ap length e)

-- the run from place i to `end`, and its byte index: what `run_end` and `index_in` ensure
pub record Run (s merged : List ℕ) (i end index : ℕ) : Type 0 where
  pub ends : (end ≡ i + run_length (drop i (glyphs_at s merged))) × (i < end) × (end ≤ length merged)
  pub at : index ≡ (glyph_in s merged i).index

pub run_at : {s merged : List ℕ} {i end index : ℕ} → (end ≡ i + run_length (drop i (glyphs_at s merged))) × (i < end) × (end ≤ length merged)
    → index ≡ (glyph_in s merged i).index → Run s merged i end index
run_at ends at = record { ends = ends; at = at }

module _ {s merged : List ℕ} (places : List ℕ) {i end index : ℕ} (run : Run s merged i end index) where
  -- the first span that covers it
  abbrev cover : ℕ
  cover = chunk_span_at (spans_in s places) index

  pub groups-passed : cover ≡ length places → groups_from s places merged i ≡ groups_from s places merged end
  groups-passed e =
      let next = run-glyphs s merged i end run.ends in
      rw (runs-next s merged i end run.ends)
      (covered-passed (spans_in s places) i cover _ next (ap (chunk_span_at (spans_in s places)) run.at) (omega (arith, spans-length s places))
      ∙ (rw (run-behind s merged i end run.ends)))

  module _ {k : ℕ} (here : (k ≡ cover) × (k < length places)) where
    pub groups-kept : groups_from s places merged i ≡ group_in s merged i end k ∷ groups_from s places merged end
    unfolding group_in
    groups-kept =
        let next = run-glyphs s merged i end run.ends in
        rw (runs-next s merged i end run.ends)
        (covered-kept (spans_in s places) i k _ next (here.0 ∙ ap (chunk_span_at (spans_in s places)) run.at) (rw (spans-length s places) here.1) ∙ (rw (run-behind s merged i end run.ends)))

    pub groups-room : (n : ℕ) → Counted s places merged n i → n < clusters_in s places merged
    groups-room n counted = omega (arith, ap length groups-kept)

    pub groups-turn : (n : ℕ) → Counted s places merged n i → Counted s places merged (n + 1) end
    groups-turn n counted = omega (arith, ap length groups-kept)

-- ---- the first n rows are stored, and the clusters of the groups that are left are still to be formed

module _ (form : Group → Cluster) (clusters : List Cluster) where
  abbrev pub formed : ℕ → List Group → List Cluster
  formed n left = take n clusters ++ map form left

  pub formed-all : (n : ℕ) {left : List Group} → left ≡ [] → formed n left ≡ take n clusters
  formed-all n e = rw e (append-nil (take n clusters))

-- the cluster c is stored, of the first group that is left
module _ (clusters : List Cluster) (n : ℕ) (c : Cluster) (h : n < length clusters) where
  pub formed-turn : (form : Group → Cluster) {g : Group} {left rest : List Group} → c ≡ form g → left ≡ g ∷ rest
      → formed form (set clusters n c) (n + 1) rest ≡ formed form clusters n left
  formed-turn form {rest = rest} ec el = rw (add-one, take-suc-set clusters n c h, el, ← ec) (append_snoc (take n clusters) c (map form rest))

  pub indexes-turn : (p : ℕ → Bool) → p c.index ≡ true → all p (indexes rounded (take n clusters)) ≡ true → all p (indexes rounded (take (n + 1) (set clusters n c))) ≡ true
  indexes-turn p h₁ e = rw (add-one, take-suc-set clusters n c h, map-append) (all_push p (indexes rounded (take n clusters)) c.index e h₁)
