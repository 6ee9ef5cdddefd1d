-- The rows that a layout gives for a job fit the fields of the answer record, as `read_answer` asks, where the job has what checks 3 to 5 show
-- (`ReadyJob`), as every accepted one has. Assumes nothing.
use Prim.Native.Nat.{ℕ, suc, ◌+◌, ◌^◌, ◌≤◌, ◌<◌}
use mathlib.Core.Path.{◌≡◌, refl, subst}
use mathlib.Core.Bool.{Bool, not, cond}
use mathlib.Core.List.{List, [], ◌∷◌, foldl}
use native.Mathlib.Nat.{le_refl}
use native.Mathlib.Omega.{arith}
use lib.ListN.{length, get_or, length-append, length-map, length-take, length-drop}
use lib.Dec.{eqb, ltb, ltb→lt, lit≤}
use lib.Ieee.{Float, binary32}
use lib.Ieee.Fits.{add-fits, of_int-fits, and_l}
use Rattle.spec_laws.proofs.All.{all_append, all_take, all_drop, all_map, all-every, all-weaken, both, cond-keeps, first, rest}
use Rattle.spec.specs.Lists.{All}
use Rattle.spec_laws.proofs.Few.{Few, few-map}
use Rattle.spec_laws.proofs.IfGiven.{if-given, of-given, given-then}
use Rattle.spec_laws.proofs.Accepted.{RangedChunk, RangedJob, floats-in-range}
use Rattle.spec_laws.proofs.Counted.{IsByte, CountedChunk, CountedJob, counted}
use Rattle.spec_laws.proofs.Merged.{Kept}
use Rattle.spec_laws.proofs.ReadBack.{Fits, FitGlyphRow, FitClusterRow, FitChunkRow}
use Rattle.spec_laws.proofs.GlyphsAccepted.{AcceptedGlyph, MergedAccepted, merged-accepted}
use Rattle.spec_laws.proofs.FitCluster.{FitCluster, FitClusters, zero-fits}
use Rattle.spec_laws.proofs.ClustersFit.{adjusted-fit, positioned-fit}
use Rattle.spec_laws.proofs.SpanRowsFit.{FitPoint, span_rows-fit}
use Rattle.spec.specs.Outcome.{Outcome, refused, given, IfGiven}
use Rattle.spec.specs.Single.{+0}
use Rattle.spec.specs.declared.Glyph.{Glyph}
use Rattle.spec.specs.Job.{Job, Chunk, limits, has_x, has_y, top_to_bottom}
use Rattle.spec.specs.Utf8.{continues, starts_at}
use Rattle.spec.specs.Check.{checked, glyph_ok}
use Rattle.spec.specs.Merge.{merge_glyphs}
use Rattle.spec.specs.declared.Cluster.{Cluster}
use Rattle.spec.specs.declared.Point.{Point}
use Rattle.spec.specs.Answer.{ChunkRow, answer_count_bytes}
use Rattle.spec.specs.Layout.{adjusted_clusters, glyph_rows, glyphs_of, bit, flags_of, cluster_row, LaidChunk, Progress, beginning, origin_of, pen_after, advanced, place_chunk, layout_chunk, layout_job, rows_of, layout_rows}

-- ---- glyph rows

-- a glyph whose numbers are as wide as the answer's fields
pub record FitGlyph (g : Glyph) : Type 0 where
  pub id : g.id < 256 ^ 4
  pub font : g.font < 256 ^ 1
  pub index : g.index < 256 ^ 2

pub glyph-fits : (job : Job) (c : Chunk) → length job.fonts ≤ limits.fonts → length c.text ≤ limits.text → (g : Glyph) → AcceptedGlyph job c g → FitGlyph g
unfolding glyph_ok starts_at
glyph-fits job c n m g a =
    let font : g.font < length job.fonts = ltb→lt _ _ (first (rest (rest (rest (rest (rest (all-every _ a.ok))))))) in
    let index : g.index < length c.text = ltb→lt _ _ (and_l (ltb g.index (length c.text)) (not (continues (get_or c.text g.index 0))) a.start) in
    record { id = a.id; font = omega arith; index = omega arith }

glyph_rows-fit : (n : ℕ) (x : Float) {gs : List Glyph} → All FitGlyph gs → length gs ≤ n → Few FitGlyphRow n (glyph_rows x gs)
unfolding glyph_rows
glyph_rows-fit n x All.none h = record { each = All.none; few = h }
glyph_rows-fit n x (All.more {xs = gs} f fs) h =
    let r = glyph_rows-fit (length gs) _ fs (le_refl _) in
    record { each = All.more (record { id = f.id; font = f.font; x = add-fits binary32 _ _; y = of_int-fits binary32 _ }) r.each; few = omega arith }

-- ---- cluster rows

bit_le : (b : Bool) (n : ℕ) → bit b n ≤ n
bit_le b n = cond-keeps (λ m. m ≤ n) b (le_refl n) (omega arith)

flags-fit : (mode : ℕ) (c : Cluster) → flags_of mode c < 256 ^ 1
flags-fit mode c =
    let turn : cond c.upright 2 4 ≤ 4 = cond-keeps (λ m. m ≤ 4) c.upright (lit≤ tt) (lit≤ tt) in
    let down : cond (eqb mode top_to_bottom) (cond c.upright 2 4) 0 ≤ 4 = cond-keeps (λ m. m ≤ 4) (eqb mode top_to_bottom) turn (lit≤ tt) in
    omega (arith, bit_le c.relative 1, bit_le c.scaled 8, bit_le c.rotated 16, bit_le c.collapsed 32)

cluster_row-fits : (mode : ℕ) {gs : List Glyph} → Few FitGlyph limits.merged gs → (c : Cluster) → FitCluster c → FitClusterRow (cluster_row mode gs c)
unfolding cluster_row
cluster_row-fits mode {gs} k c h =
    let part : length (glyphs_of gs c) ≤ limits.merged = simp (length-take, length-drop) (omega arith) in
    let glyphs = glyph_rows-fit limits.merged +0 (all_take c.count (all_drop c.from k.each)) part in
    record {
      index = h.index;
      flags = flags-fit mode c;
      width = h.width;
      advance = h.advance;
      spacing = h.spacing;
      ascent = h.ascent;
      descent = h.descent;
      nudge = h.nudge;
      scale = h.scale;
      x = h.x;
      y = h.y;
      angle = h.angle;
      count = omega (arith, glyphs.few);
      glyphs = glyphs.each;
    }

-- ---- a chunk's row

-- k chunks are laid out
record Laid (k : ℕ) (st : Progress) : Type 0 where
  pen : FitPoint st.pen
  rows : All (λ l. FitChunkRow l.row) st.chunks
  count : length st.chunks ≡ k

advanced-laid : (k : ℕ) (st : Progress) (c : Chunk) (pen : Point) (laid : LaidChunk) → Laid k st → FitPoint pen → FitChunkRow laid.row → Laid (suc k) (advanced st c pen laid)
advanced-laid k st c pen laid h p r =
    record { pen = p; rows = all_append h.rows (All.more r All.none); count = rw (length-append st.chunks (laid ∷ [])) (omega arith) }

origin-fits : (pen : Point) (c : Chunk) → FitPoint pen → RangedChunk c → FitPoint (origin_of pen c)
origin-fits pen c p r = record { x = cond-keeps Fits (has_x c) r.x.0 p.x; y = cond-keeps Fits (has_y c) r.y.0 p.y }

pen-fits : (mode : ℕ) (origin : Point) (end_x end_y : Float) → FitPoint (pen_after mode origin end_x end_y)
unfolding pen_after
pen-fits mode origin end_x end_y =
    cond-keeps FitPoint (eqb mode top_to_bottom) (record { x = add-fits binary32 _ _; y = add-fits binary32 _ _ }) (record { x = add-fits binary32 _ _; y = add-fits binary32 _ _ })

-- what checks 3 to 5 show of a chunk
pub record Ready (job : Job) (c : Chunk) : Type 0 where
  pub ranged : RangedChunk c
  pub counts : CountedChunk c
  pub merged : MergedAccepted job c

-- and of a job, whatever its bytes
pub record ReadyJob (job : Job) : Type 0 where
  pub ranged : RangedJob job
  pub counts : CountedJob job
  pub merged : All (MergedAccepted job) job.chunks

pub ready-chunks : {job : Job} → ReadyJob job → All (Ready job) job.chunks
ready-chunks r =
    let pairs = both {R = λ c. RangedChunk c × CountedChunk c} (λ c f n. (f, n)) r.ranged.chunks r.counts.each in
    both (λ c x m. record { ranged = x.0; counts = x.1; merged = m }) pairs r.merged

module _ (job : Job) (turns : All Fits job.rotate) (fonts : length job.fonts ≤ limits.fonts) where
  placed-fits : (k : ℕ) (st : Progress) (c : Chunk) {gs : List Glyph} (cs : List Cluster) → Ready job c → Few FitGlyph limits.merged gs → FitClusters cs → Laid k st
      → Laid (suc k) (place_chunk job st c gs cs)
  unfolding place_chunk
  placed-fits k st c [] r g f h =
      advanced-laid k st c _ _ h h.pen
      (record { pen_x = h.pen.x; pen_y = h.pen.y; cluster_count = omega arith; span_count = omega arith; clusters = All.none; spans = All.none })
  placed-fits k st c {gs} (d ∷ ds) r g f h =
      let origin = origin-fits st.pen c h.pen r.ranged in
      let placed = positioned-fit job st.offset c turns f in
      let pen = pen-fits job.mode (origin_of st.pen c) _ _ in
      let clusters = few-map FitClusterRow _ (cluster_row-fits job.mode g) placed in
      let spans = span_rows-fit job (origin_of st.pen c) origin placed 0 c.parts (omega (arith, r.counts.spans)) in
      advanced-laid k st c _ _ h pen
      (record {
        pen_x = pen.x;
        pen_y = pen.y;
        cluster_count = omega (arith, clusters.few);
        span_count = omega (arith, spans.few, r.counts.spans);
        clusters = clusters.each;
        spans = spans.each;
      })

  chunk-fits : (k : ℕ) (o : Outcome Progress) (c : Chunk) → Ready job c → IfGiven (Laid k) o → IfGiven (Laid (suc k)) (layout_chunk job o c)
  unfolding layout_chunk
  chunk-fits k (refused n) c r h = tt
  chunk-fits k (given st) c r h =
      given-then (Kept (AcceptedGlyph job c)) (Laid (suc k)) (merge_glyphs c.parts) _ (if-given _ _ r.merged)
      (λ gs m. let g : Few FitGlyph limits.merged gs = record { each = all-weaken (glyph-fits job c fonts r.counts.text) m.glyphs; few = m.few } in
      let i : Few (λ x. x.index < 256 ^ 2) limits.merged gs = record { each = all-weaken (λ x f. f.index) g.each; few = m.few } in
      given-then FitClusters (Laid (suc k)) (adjusted_clusters job c gs) _ (adjusted-fit job c i) (λ cs f. placed-fits k st c cs r g f h))

  -- a row a chunk
  chunks_fit : (k : ℕ) (o : Outcome Progress) {cs : List Chunk} → All (Ready job) cs → IfGiven (Laid k) o → IfGiven (Laid (k + length cs)) (foldl (layout_chunk job) o cs)
  chunks_fit k o All.none h = let e : k ≡ k + 0 = omega arith in subst (λ (n : ℕ). IfGiven (Laid n) o) e h
  chunks_fit k o (All.more {x = c} {xs = cs} r rs) h =
      let e : suc k + length cs ≡ k + suc (length cs) = omega arith in
      subst (λ (n : ℕ). IfGiven (Laid n) (foldl (layout_chunk job) (layout_chunk job o c) cs)) e (chunks_fit (suc k) (layout_chunk job o c) rs (chunk-fits k o c r h))

-- ---- all rows

abbrev pub FitRows : List ChunkRow → Type 0
FitRows rows = All FitChunkRow rows × (length rows < 256 ^ answer_count_bytes)

pub job-fits : (job : Job) → ReadyJob job → (laid : List LaidChunk) → layout_job job ≡ given laid → FitRows (rows_of laid)
unfolding layout_job
job-fits job r laid e =
    let turns = all-weaken (λ x t. t.0) r.ranged.rotate in
    let start : Laid 0 beginning = record { pen = record { x = zero-fits; y = zero-fits }; rows = All.none; count = refl } in
    of-given (λ cs. FitRows (rows_of cs)) (layout_job job) laid
    (given-then (Laid (0 + length job.chunks)) (λ cs. FitRows (rows_of cs)) (foldl (layout_chunk job) (given beginning) job.chunks) _
    (chunks_fit job turns r.counts.fonts 0 (given beginning) (ready-chunks r) start)
    (λ st l. (all_map FitChunkRow (λ (c : LaidChunk). c.row) (λ c f. f) l.rows, rw (length-map st.chunks (λ (c : LaidChunk). c.row)) (omega (arith, l.count, r.counts.chunks))))) e

-- ---- an accepted job

pub job-ready : (bs : List ℕ) (job : Job) → All IsByte bs → checked bs ≡ given job → ReadyJob job
job-ready bs job h e = record { ranged = floats-in-range bs job e; counts = counted bs job e; merged = merged-accepted bs job h e }

pub rows_fit : (bs : List ℕ) (rows : List ChunkRow) → All IsByte bs → layout_rows bs ≡ given rows → FitRows rows
unfolding layout_rows
rows_fit bs rows h e =
    of-given FitRows (layout_rows bs) rows
    (given-then ReadyJob FitRows (checked bs) _ (if-given _ (checked bs) (λ job a. job-ready bs job h a))
    (λ job r. given-then (λ cs. FitRows (rows_of cs)) FitRows (layout_job job) _ (if-given _ (layout_job job) (job-fits job r)) (λ cs f. f))) e
