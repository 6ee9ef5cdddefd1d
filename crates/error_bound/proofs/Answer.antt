-- Demand 3: of a job that has what checks 3 to 6 show (`JobIn`), as every accepted one has, the answer's bytes hold as many chunks and clusters as the exact
-- layout, with the same byte indexes and collapse marks, and each offset is finite and within the distance allowed in its chunk of the exact one. Assumes nothing.
use Prim.Native.Nat.{ℕ, ◌+◌, ◌/◌, ◌%◌, ◌≤◌}
use mathlib.Core.Path.{◌≡◌, refl, sym, ap, ◌∙◌, subst}
use mathlib.Core.Bool.{Bool, true, false, cond}
use mathlib.Core.List.{List, [], ◌∷◌, ◌++◌, map, foldl, append-nil}
use native.Mathlib.Omega.{arith}
use borrow.Author.Tests.{eq-eqb, ne_eqb}
use lib.ListN.{length, drop, length-map}
use lib.Seq.{append_snoc}
use lib.Dec.{T, eqb, leb}
use Rattle.float_error.specs.Fraction.{Frac}
use Rattle.spec_laws.proofs.All.{all_of, all-weaken, both}
use Rattle.spec_laws.proofs.Outcomes.{reached}
use Rattle.spec_laws.proofs.Accepted.{accepted}
use Rattle.spec_laws.proofs.Counted.{IsByte}
use Rattle.spec_laws.proofs.ReadBack.{read_answer_lem}
use Rattle.spec_laws.proofs.RowsFit.{Ready, ReadyJob, ready-chunks, job-fits, job-ready}
use Rattle.spec.specs.declared.Glyph.{Glyph}
use Rattle.spec.specs.declared.Cluster.{Cluster}
use Rattle.spec.specs.Outcome.{Outcome, refused, given}
use Rattle.spec.specs.Lists.{scan, All}
use Rattle.spec.specs.Utf8.{characters}
use Rattle.spec.specs.Job.{Job, Chunk, SpanParts, top_to_bottom}
use Rattle.spec.specs.Check.{checked, spans_ok}
use Rattle.spec.specs.Merge.{merge_glyphs}
use Rattle.spec.specs.Position.{entries, logical_order, resolve_relative_shifts, rotate_shifts, placed_from, positioned, mark_relative_shifts}
use Rattle.spec.specs.Cluster.{rounded}
use Rattle.spec.specs.Answer.{ClusterRow, ChunkRow, answer_bytes}
use Rattle.spec.specs.Layout.{bit, flags_of, cluster_row, adjusted_clusters, resolve_clusters_positions_horizontal, LaidChunk, Progress, beginning, place_chunk, layout_chunk, layout_job, rows_of, layout_rows, fitting, layout_of, buffer_after}
use Rattle.spec.specs.Exact.{ExactCluster, AllPairs, Near, NearChunk, NearChunks, NearAnswer, allowed, formed_exactly, layout_exactly}
use Rattle.float_error.proofs.Inputs.{Input}
use Rattle.error_bound.proofs.Formed.{FontIn}
use Rattle.error_bound.proofs.Accepted.{input, spans-in, fonts-in, glyph-in, groups-in}
use Rattle.error_bound.proofs.Chunk.{Placed, chunk-placed}

-- ---- a row

-- the collapse mark is read back from the flags
bit_below : (b : Bool) (n : ℕ) → bit b n ≤ n
bit_below true n = omega arith
bit_below false n = omega arith

turn_below : (t u : Bool) → cond t (cond u 2 4) 0 ≤ 4
turn_below true true = omega arith
turn_below true false = omega arith
turn_below false u = omega arith

flags-collapsed : (mode : ℕ) (c : Cluster) → eqb (flags_of mode c / 32 % 2) 1 ≡ c.collapsed
flags-collapsed mode c =
    go c.collapsed (bit c.relative 1 + cond (eqb mode top_to_bottom) (cond c.upright 2 4) 0 + bit c.scaled 8 + bit c.rotated 16)
    (omega (arith, bit_below c.relative 1, turn_below (eqb mode top_to_bottom) c.upright, bit_below c.scaled 8, bit_below c.rotated 16))
  where
    go : (b : Bool) (low : ℕ) → low ≤ 29 → eqb ((low + bit b 32) / 32 % 2) 1 ≡ b
    go true low h = eq-eqb ((low + 32) / 32 % 2) 1 (omega arith)
    go false low h = ne_eqb ((low + 0) / 32 % 2) 1 (λ (e : (low + 0) / 32 % 2 ≡ 1). omega arith)

row_near : {b : Frac} {c : Cluster} {q : ExactCluster} (mode : ℕ) (gs : List Glyph) → Placed b c q → Near b (cluster_row mode gs c) q
unfolding cluster_row
row_near {c = c} mode gs p =
    let n = p.near in
    record {
      index = p.index;
      collapsed = flags-collapsed mode c ∙ p.collapsed;
      finite = n.0;
      distance = n.1;
    }

rows-near : {b : Frac} {cs : List Cluster} {qs : List ExactCluster} (mode : ℕ) (gs : List Glyph) → AllPairs (Placed b) cs qs → AllPairs (Near b) (map (cluster_row mode gs) cs) qs
rows-near mode gs AllPairs.none = AllPairs.none
rows-near mode gs (AllPairs.more p ps) = AllPairs.more (row_near mode gs p) (rows-near mode gs ps)

-- ---- a chunk

-- what checks 3 to 6 show of a chunk
pub record ChunkIn (job : Job) (c : Chunk) : Type 0 where
  pub ready : Ready job c
  pub order : T (spans_ok c)

-- and of a job, whatever its bytes
pub record JobIn (job : Job) : Type 0 where
  pub ready : ReadyJob job
  pub fonts : All FontIn job.fonts
  pub order : All (λ c. T (spans_ok c)) job.chunks

module _ (job : Job) (fonts : All FontIn job.fonts) (dxs : All Input job.dx) (dys : All Input job.dy) where
  placed-near : (c : Chunk) → ChunkIn job c → (offset : ℕ) (gs : List Glyph) (ds : List Cluster) → merge_glyphs c.parts ≡ given gs → adjusted_clusters job c gs ≡ given ds
      → AllPairs (Near (allowed job offset c (formed_exactly job c gs))) (map (cluster_row job.mode gs) (resolve_clusters_positions_horizontal job offset c ds).clusters) (layout_exactly job offset c (formed_exactly job c gs))
  placed-near c i offset gs ds m e =
      let known = i.ready.merged gs m in
      let spans = spans-in c i.ready.ranged in
      let few = subst (λ (n : ℕ). n ≤ 32) (sym (length-map c.parts (λ (p : SpanParts). p.span))) i.ready.counts.spans in
      let gi = groups-in (all-weaken (glyph-in job c) known.glyphs) known.few spans in
      rows-near job.mode gs (chunk-placed job c offset gs fonts spans i.order few dxs dys gi ds e)

  -- no cluster, no row
  turn-none : (mode : ℕ) → rotate_shifts rounded mode [] ≡ []
  unfolding rotate_shifts
  turn-none mode = go (eqb mode top_to_bottom)
    where
      go : (b : Bool) → ◌≡◌ {A = List Cluster} (cond b [] []) []
      go true = refl
      go false = refl

  none-moved : (offset : ℕ) (c : Chunk) → mark_relative_shifts job c.text offset (rotate_shifts rounded job.mode (resolve_relative_shifts rounded job c.text offset [])) ≡ []
  unfolding resolve_relative_shifts logical_order entries mark_relative_shifts
  none-moved offset c = ap (mark_relative_shifts job c.text offset) (turn-none job.mode)

  none-placed : (offset : ℕ) (c : Chunk) → (resolve_clusters_positions_horizontal job offset c []).clusters ≡ []
  unfolding resolve_clusters_positions_horizontal positioned placed_from scan
  none-placed offset c = ap (λ (cs : List Cluster). (positioned rounded c.anchor cs).clusters) (none-moved offset c)

  chunk-near : (c : Chunk) → ChunkIn job c → (offset : ℕ) (gs : List Glyph) (ds : List Cluster) → merge_glyphs c.parts ≡ given gs → adjusted_clusters job c gs ≡ given ds
      → (row : ChunkRow) → row.clusters ≡ map (cluster_row job.mode gs) (resolve_clusters_positions_horizontal job offset c ds).clusters → NearChunk job offset c (merge_glyphs c.parts) row
  unfolding NearChunk
  chunk-near c i offset gs ds m e row h =
      subst (λ (o : Outcome (List Glyph)). NearChunk job offset c o row) (sym m)
      (subst (λ (l : List ClusterRow). AllPairs (Near (allowed job offset c (formed_exactly job c gs))) l (layout_exactly job offset c (formed_exactly job c gs))) (sym h) (placed-near c i offset gs ds m e))

  -- ---- the chunks in order

  -- what a chunk's layout adds to the progress
  record Advanced (st st' : Progress) (c : Chunk) : Type 0 where
    laid : LaidChunk
    chunks : st'.chunks ≡ st.chunks ++ (laid ∷ [])
    offset : st'.offset ≡ st.offset + characters c.text
    near : NearChunk job st.offset c (merge_glyphs c.parts) laid.row

  placed-chunk : (st : Progress) (c : Chunk) → ChunkIn job c → (gs : List Glyph) (ds : List Cluster) → merge_glyphs c.parts ≡ given gs → adjusted_clusters job c gs ≡ given ds → Advanced st (place_chunk job st c gs ds) c
  unfolding place_chunk
  placed-chunk st c i gs [] m e =
      record { laid = _; chunks = refl; offset = refl; near = chunk-near c i st.offset gs [] m e _ (sym (ap (map (cluster_row job.mode gs)) (none-placed st.offset c))) }
  placed-chunk st c i gs (k ∷ ks) m e = record { laid = _; chunks = refl; offset = refl; near = chunk-near c i st.offset gs (k ∷ ks) m e _ refl }

  laid-chunk : (st st' : Progress) (c : Chunk) → ChunkIn job c → layout_chunk job (given st) c ≡ given st' → Advanced st st' c
  unfolding layout_chunk
  laid-chunk st st' c i e =
      let r = reached (merge_glyphs c.parts) _ st' e in
      let s = reached (adjusted_clusters job c r.0) _ st' r.2 in
      let is : place_chunk job st c r.0 s.0 ≡ st' = cc s.2 in
      subst (λ (st' : Progress). Advanced st st' c) is (placed-chunk st c i r.0 s.0 r.1 s.1)

  refused-stays : (n : ℕ) (cs : List Chunk) → foldl (layout_chunk job) (refused n) cs ≡ refused n
  unfolding layout_chunk
  refused-stays n [] = refl
  refused-stays n (c ∷ cs) = refused-stays n cs

  abbrev Laid : Progress → Progress → List Chunk → Type 0
  Laid st st' cs = (laid : List LaidChunk) × (st'.chunks ≡ st.chunks ++ laid) × NearChunks job st.offset cs (rows_of laid)

  laid-chunks : (cs : List Chunk) → All (ChunkIn job) cs → (st st' : Progress) → foldl (layout_chunk job) (given st) cs ≡ given st' → Laid st st' cs
  unfolding NearChunks
  laid-chunks [] All.none st st' e = let same : st ≡ st' = cc in ([], sym (ap (λ (s : Progress). s.chunks) same) ∙ sym (append-nil st.chunks), tt)
  laid-chunks (c ∷ cs) (All.more i is) st st' e = go (layout_chunk job (given st) c) refl e (λ s. laid-chunks cs is s st')
    where
      go : (o : Outcome Progress) → layout_chunk job (given st) c ≡ o → foldl (layout_chunk job) o cs ≡ given st' → ((s : Progress) → foldl (layout_chunk job) (given s) cs ≡ given st' → Laid s st' cs) → Laid st st' (c ∷ cs)
      go (refused n) h e rec = let z : ◌≡◌ {A = ℕ} 0 1 = cc (refused-stays n cs) in absurd (omega arith)
      go (given s) h e rec =
          let a = laid-chunk st s c i h in
          let r = rec s e in
          (a.laid ∷ r.0, r.1 ∙ ap (λ (l : List LaidChunk). l ++ r.0) a.chunks ∙ append_snoc st.chunks a.laid r.0, (a.near, subst (λ (n : ℕ). NearChunks job n cs (rows_of r.0)) a.offset r.2))

-- ---- demand 3, of a job's rows
pub near-job : (job : Job) → JobIn job → (laid : List LaidChunk) → layout_job job ≡ given laid → NearChunks job 0 job.chunks (rows_of laid)
unfolding layout_job
near-job job i laid e =
    let r = reached (foldl (layout_chunk job) (given beginning) job.chunks) _ laid e in
    let floats = i.ready.ranged in
    let chunks : All (ChunkIn job) job.chunks = both (λ c x o. record { ready = x; order = o }) (ready-chunks i.ready) i.order in
    let l = laid-chunks job i.fonts (all-weaken input floats.dx) (all-weaken input floats.dy) job.chunks chunks beginning r.0 r.1 in
    let same : r.0.chunks ≡ laid = cc r.2 in
    subst (λ (ls : List LaidChunk). NearChunks job 0 job.chunks (rows_of ls)) (sym l.1 ∙ same) l.2

-- of the bytes that hold them, whatever follows
pub near-written : (job : Job) → JobIn job → (laid : List LaidChunk) (after : List ℕ) → layout_job job ≡ given laid → NearAnswer (given job) (answer_bytes (rows_of laid) ++ after)
unfolding NearAnswer
near-written job i laid after e =
    let fit = job-fits job i.ready laid e in
    subst (NearChunks job 0 job.chunks) (sym (read_answer_lem (rows_of laid) after fit.1 fit.0)) (near-job job i laid e)

-- ---- demand 3, of an accepted job

pub job-in : (bs : List ℕ) (job : Job) → All IsByte bs → checked bs ≡ given job → JobIn job
job-in bs job h e = record { ready = job-ready bs job h e; fonts = fonts-in bs job h e; order = all_of spans_ok job.chunks (accepted bs job e).spans }

pub near-rows : (bs : List ℕ) (rows : List ChunkRow) (after : List ℕ) → All IsByte bs → layout_rows bs ≡ given rows → NearAnswer (checked bs) (answer_bytes rows ++ after)
unfolding layout_rows
near-rows bs rows after h e =
    let r = reached (checked bs) _ rows e in
    let l = reached (layout_job r.0) _ rows r.2 in
    let same : rows_of l.0 ≡ rows = cc l.2 in
    let near = near-written r.0 (job-in bs r.0 h r.1) l.0 after l.1 in
    subst (λ (o : Outcome Job). NearAnswer o (answer_bytes rows ++ after)) (sym r.1)
    (subst (λ (rs : List ChunkRow). NearAnswer (given r.0) (answer_bytes rs ++ after)) same near)

-- as the call leaves it: whatever the lent buffer held before, its bytes afterwards are near
pub near-answer : (bs : List ℕ) (room : ℕ) (answer old : List ℕ) → All IsByte bs → layout_of bs room ≡ given answer → NearAnswer (checked bs) (buffer_after (layout_of bs room) old)
unfolding layout_of fitting
near-answer bs room answer old h e =
    let r = reached (layout_rows bs) (fitting room) answer e in
    let is : answer_bytes r.0 ≡ answer = not-refused (leb (length (answer_bytes r.0)) room) (answer_bytes r.0) answer r.2 in
    subst (λ (o : Outcome (List ℕ)). NearAnswer (checked bs) (buffer_after o old)) (sym e)
    (subst (λ (a : List ℕ). NearAnswer (checked bs) (a ++ drop (length answer) old)) is (near-rows bs r.0 (drop (length answer) old) h r.1))
  where
    not-refused : (b : Bool) (x y : List ℕ) → cond b (given x) (refused 10) ≡ given y → x ≡ y
    not-refused true x y e = cc
    not-refused false x y e = let z : ◌≡◌ {A = ℕ} 0 1 = cc in absurd (omega arith)
