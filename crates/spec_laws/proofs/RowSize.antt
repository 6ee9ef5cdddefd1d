-- A chunk's row is as long as its counts say, and its counts are bounded: by the merged glyphs, which its clusters share; by the chunk's spans; and
-- by its clusters, since all spans together have no more runs. Assumes nothing.
use Prim.Native.Nat.{ℕ, suc, ◌+◌, ◌*◌, ◌≤◌}
use mathlib.Core.Path.{◌≡◌, refl, ap, ◌∙◌}
use mathlib.Core.List.{List, [], ◌∷◌, ◌++◌, map, flat_map, map-map}
use native.Mathlib.Nat.{le_refl}
use native.Mathlib.Omega.{arith}
use lib.ListN.{length, length-map, length-take}
use lib.Dec.{T, eqb}
use lib.Ieee.{Float, binary32, of_int}
use Rattle.spec.specs.Single.{◌+ᶠ◌}
use Rattle.spec_laws.proofs.All.{cond-keeps}
use Rattle.spec_laws.proofs.AnswerLength.{length-flat_map, length-chunk_row}
use Rattle.spec_laws.proofs.Sums.{total, total-map, total-counted}
use Rattle.spec_laws.proofs.GlyphsShared.{Shared, positioned-share}
use Rattle.spec_laws.proofs.RunsShared.{covered_by, span-runs, covered-once}
use Rattle.spec.specs.declared.Glyph.{Glyph}
use Rattle.spec.specs.declared.Cluster.{Cluster}
use Rattle.spec.specs.declared.Point.{Point}
use Rattle.spec.specs.Job.{Job, Chunk, SpanParts, spans_of, no_font}
use Rattle.spec.specs.Check.{spans_ok}
use Rattle.spec.specs.Answer.{ClusterRow, SpanRow, ChunkRow, chunk_head_size, glyph_row_size, run_size, cluster_row_size, span_row_size, chunk_row_bytes, chunk_row_length, sum}
use Rattle.spec.specs.Layout.{glyph_rows, cluster_row, span_row, span_rows, LaidChunk, Progress, rows_of, origin_of, place_chunk}

-- ---- the row's length, from its counts

-- the glyph rows of a chunk's row, and its runs
abbrev pub row_glyphs : ChunkRow → ℕ
row_glyphs r = total (λ (c : ClusterRow). length c.glyphs) r.clusters

abbrev pub row_runs : ChunkRow → ℕ
row_runs r = total (λ (s : SpanRow). length s.runs) r.spans

pub row-length : (r : ChunkRow)
    → chunk_row_length r ≡ chunk_head_size + cluster_row_size 0 * length r.clusters + glyph_row_size * row_glyphs r + span_row_size 0 * length r.spans + run_size * row_runs r
unfolding chunk_row_length
row-length r =
    omega (arith, total-counted 45 glyph_row_size (λ (c : ClusterRow). length c.glyphs) r.clusters, total-counted 31 run_size (λ (s : SpanRow). length s.runs) r.spans)

-- ---- its counts

-- a row of at most n glyphs, m spans and k clusters, and with no more runs than clusters
pub record Sized (n m k : ℕ) (r : ChunkRow) : Type 0 where
  pub clusters : length r.clusters ≤ k
  pub glyphs : row_glyphs r ≤ n
  pub spans : length r.spans ≤ m
  pub runs : row_runs r ≤ k

length-glyph_rows : (x : Float) (gs : List Glyph) → length (glyph_rows x gs) ≡ length gs
unfolding glyph_rows
length-glyph_rows x [] = refl
length-glyph_rows x (g ∷ gs) = ap suc (length-glyph_rows (x +ᶠ of_int binary32 g.width) gs)

cluster-glyphs : (mode : ℕ) (gs : List Glyph) (c : Cluster) → length (cluster_row mode gs c).glyphs ≤ c.count
unfolding cluster_row
cluster-glyphs mode gs c = simp (length-glyph_rows, length-take) (omega arith)

-- at most a row for each span, with the runs of the clusters that it covers
module _ (job : Job) (origin : Point) (cs : List Cluster) where
  record SizedSpans (ps : List SpanParts) (rs : List SpanRow) : Type 0 where
    spans : length rs ≤ length ps
    runs : total (λ (s : SpanRow). length s.runs) rs ≤ total (covered_by cs) (map (λ (p : SpanParts). p.span) ps)

  spans_sized : (k : ℕ) (ps : List SpanParts) → SizedSpans ps (span_rows job origin cs k ps)
  unfolding span_rows span_row
  spans_sized k [] = record { spans = le_refl 0; runs = le_refl 0 }
  spans_sized k (p ∷ ps) =
      let r = spans_sized (k + 1) ps in
      let here = span-runs p.span cs in
      cond-keeps (SizedSpans (p ∷ ps)) (eqb p.span.font no_font) (record { spans = omega arith; runs = omega arith }) (record { spans = omega arith; runs = omega arith })

-- the row of clusters that share the merged glyphs, with the chunk's spans
row_sized : {k : ℕ} (job : Job) (origin : Point) (c : Chunk) (gs : List Glyph) (cs : List Cluster) (pen_x pen_y : Float) → T (spans_ok c) → Shared (length gs) k cs
    → Sized (length gs) (length c.parts) k (record { pen_x = pen_x; pen_y = pen_y; clusters = map (cluster_row job.mode gs) cs; spans = span_rows job origin cs 0 c.parts })
unfolding spans_ok
row_sized job origin c gs cs pen_x pen_y t h =
    let spans = spans_sized job origin cs 0 c.parts in
    let glyphs = total-map (λ (r : ClusterRow). length r.glyphs) (λ (d : Cluster). d.count) (cluster_row job.mode gs) (cluster-glyphs job.mode gs) cs in
    let many : length (map (cluster_row job.mode gs) cs) ≡ length cs = length-map cs (cluster_row job.mode gs) in
    record {
      clusters = omega (arith, h.few);
      glyphs = omega (arith, h.glyphs);
      spans = spans.spans;
      runs = omega (arith, spans.runs, h.few, covered-once (length c.text) 0 (spans_of c) t cs);
    }

-- ---- a chunk that is placed

abbrev pub laid_length : LaidChunk → ℕ
laid_length l = chunk_row_length l.row

-- one chunk is laid out behind those before it, and its row is Sized
pub record PlacedSized (n m k : ℕ) (before after : Progress) : Type 0 where
  pub laid : LaidChunk
  pub behind : after.chunks ≡ before.chunks ++ (laid ∷ [])
  pub sized : Sized n m k laid.row

pub placed-sized : (job : Job) (st : Progress) (c : Chunk) (gs : List Glyph) (cs : List Cluster) → T (spans_ok c) → Shared (length gs) (length cs) cs
    → PlacedSized (length gs) (length c.parts) (length cs) st (place_chunk job st c gs cs)
unfolding place_chunk
placed-sized job st c gs [] t h = record { laid = _; behind = refl; sized = record { clusters = le_refl 0; glyphs = omega arith; spans = omega arith; runs = le_refl 0 } }
placed-sized job st c gs (d ∷ ds) t h =
    record { laid = _; behind = refl; sized = row_sized job (origin_of st.pen c) c gs _ _ _ t (positioned-share job st.offset c h) }

-- the rows of the chunks that are laid out, and their bytes
pub rows-length : (ls : List LaidChunk) → total chunk_row_length (rows_of ls) ≡ total laid_length ls
rows-length ls = ap sum (map-map chunk_row_length (λ (l : LaidChunk). l.row) ls)

pub rows-bytes : (ls : List LaidChunk) → length (flat_map chunk_row_bytes (rows_of ls)) ≡ total laid_length ls
rows-bytes ls = length-flat_map chunk_row_bytes chunk_row_length length-chunk_row (rows_of ls) ∙ rows-length ls
