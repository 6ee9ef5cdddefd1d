-- A chunk's row: its parts, and how long it is. Assumes nothing.
use Prim.Native.Nat.{ℕ, ◌+◌, ◌-◌, ◌≤◌, ◌<◌}
use mathlib.Core.Path.{◌≡◌, refl, sym, ap, ◌∙◌}
use mathlib.Core.List.{List, ◌++◌, map, flat_map, append_assoc, append-nil}
use native.Mathlib.Omega.{arith}
use lib.ListN.{length, length-append, length-map}
use borrow.Author.Tests.{le-leb, lt-leb}
use Rattle.spec.specs.declared.Point.{Point}
use Rattle.spec.specs.declared.Glyph.{Glyph}
use Rattle.spec.specs.declared.Cluster.{Cluster}
use Rattle.spec.specs.declared.Job.{Job}
use Rattle.spec.specs.Job as definitions
use Rattle.spec.specs.Answer.{ChunkRow, chunk_head_size, cluster_row_bytes, span_row_bytes, chunk_row_bytes, chunk_row_length, span_row_length, sum}
use Rattle.spec.specs.Layout.{span_rows}
use Rattle.spec_laws.proofs.Numbers.{length-bytes, length-float_bytes}
use Rattle.spec_laws.proofs.AnswerLength.{length-chunk_row}
use Rattle.wire.specs.Splice.{splice}
use Rattle.job_rows.specs.Rows.{glyphs_at, parts_in, job_at}
use Rattle.answer_rows.specs.declared.chunk.Frame.{Frame}
use Rattle.answer_rows.specs.Clusters.{clusters_size}
use Rattle.answer_rows.specs.Chunks.{chunk_row, empty_row, chunk_head_bytes, row_at, RowLength, splice_if_fits, RowWritten}
use Rattle.answer_rows.proofs.GlyphsLeft.{glyphs-count}
use Rattle.answer_rows.proofs.ClusterRows.{rows-size, length-rows}
use Rattle.answer_rows.proofs.Puts.{put-start, put-turn}

pub length-head : (clusters spans : ℕ) (pen : Point) → length (chunk_head_bytes clusters spans pen) ≡ chunk_head_size
unfolding chunk_head_bytes
length-head clusters spans pen = simp (length-append, length-bytes, length-float_bytes) (omega arith)

-- what stands before the rows, the clusters' rows, the spans' rows
chunk-parts : (row : ChunkRow) (clusters spans : ℕ) → clusters ≡ length row.clusters → spans ≡ length row.spans
    → chunk_row_bytes row ≡ chunk_head_bytes clusters spans (record { x = row.pen_x; y = row.pen_y }) ++ (flat_map cluster_row_bytes row.clusters ++ flat_map span_row_bytes row.spans)
unfolding chunk_row_bytes chunk_head_bytes
chunk-parts row clusters spans e f = rw (e, f) (simp append_assoc)

-- where there is no cluster, nothing stands behind the head
pub empty-bytes : (pen : Point) → chunk_row_bytes (empty_row pen) ≡ chunk_head_bytes 0 0 pen
unfolding flat_map
empty-bytes pen = chunk-parts (empty_row pen) 0 0 refl refl ∙ append-nil (chunk_head_bytes 0 0 pen)

pub empty-length : (pen : Point) → length (chunk_row_bytes (empty_row pen)) ≡ chunk_head_size
empty-length pen = ap length (empty-bytes pen) ∙ length-head 0 0 pen

-- the head, the clusters' rows, the spans' rows
pub chunk-size : (job : definitions.Job) (origin pen : Point) (gs : List Glyph) (count : ℕ) → length gs ≡ count → (cs : List Cluster) (parts : List definitions.SpanParts)
    → chunk_row_length (chunk_row job origin pen gs cs parts) ≡ chunk_head_size + clusters_size count cs + sum (map span_row_length (span_rows job origin cs 0 parts))
unfolding chunk_row_length
chunk-size job origin pen gs count e cs parts = rw (rows-size job.mode gs count e cs)

-- ---- the row that is written

module _ (out : List ℕ) (at : ℕ) (bs : List ℕ) where
  pub put-within : at + length bs ≤ length out → splice out at bs ≡ splice_if_fits out at bs
  unfolding splice_if_fits
  put-within h = rw (le-leb (at + length bs) (length out) h)

  pub put-none : length out < at + length bs → out ≡ splice_if_fits out at bs
  unfolding splice_if_fits
  put-none h = rw (lt-leb (at + length bs) (length out) h)

module _ (s : List ℕ) (job : Job) (spans merged : List ℕ) (frame : Frame) (cs : List Cluster) where
  abbrev row : ChunkRow
  row = row_at s job spans merged frame cs

  abbrev clusters_long : ℕ
  clusters_long = clusters_size (length merged) cs

  abbrev spans_long : ℕ
  spans_long = sum (map span_row_length row.spans)

  -- by its parts, and as it was measured
  pub row_size : length (chunk_row_bytes row) ≡ chunk_head_size + clusters_long + spans_long
  row_size =
      length-chunk_row row ∙ chunk-size (job_at s job) frame.origin frame.pen (glyphs_at s merged) (length merged) (glyphs-count s merged) cs (parts_in s spans)

  pub row-measured : {r : ℕ} → RowLength r (length merged) cs (parts_in s spans) → r ≡ length (chunk_row_bytes row)
  row-measured is = is (job_at s job) frame.origin frame.pen (glyphs_at s merged) (glyphs-count s merged) ∙ sym (length-chunk_row row)

  module _ (out : List ℕ) (at : ℕ) where
    pub row-left : {r : ℕ} → r ≡ length (chunk_row_bytes row) → length out < at + r → RowWritten at r out out row
    row-left e h = record { length = e; buffer = put-none out at (chunk_row_bytes row) (omega (arith, e)) }

    -- its three parts are put one after the other
    pub row_put : at + length (chunk_row_bytes row) ≤ length out → {k behind end : ℕ} {out₁ out₂ out₃ : List ℕ} → k ≡ length row.spans
        → out₁ ≡ splice out at (chunk_head_bytes (length cs) k frame.pen)
        → (out₂ ≡ splice out₁ (at + chunk_head_size) (flat_map cluster_row_bytes row.clusters)) × (behind ≡ at + chunk_head_size + clusters_long)
        → (end ≡ behind + spans_long) × (out₃ ≡ splice out₂ behind (flat_map span_row_bytes row.spans))
        → RowWritten at (end - at) out out₃ row
    row_put room {k} {behind} counted e₁ e₂ e₃ =
        let bc = flat_map cluster_row_bytes row.clusters in
        let bs = flat_map span_row_bytes row.spans in
        let parts = chunk-parts row (length cs) k (sym (length-map cs _)) counted in
        let lc = length-rows job.mode (glyphs_at s merged) (length merged) (glyphs-count s merged) cs in
        let p₀ = put-start {old = out} {at = at} {bs = chunk_row_bytes row} room in
        let p₁ = put-turn p₀ (chunk_head_bytes (length cs) k frame.pen) (bc ++ bs) {here' = at + 11} parts e₁ (omega (arith, length-head (length cs) k frame.pen)) in
        let p₂ = put-turn p₁ bc bs {here' = behind} refl e₂.0 (omega (arith, e₂.1, lc)) in
        record {
          length = omega (arith, e₂.1, e₃.0, row_size);
          buffer = e₃.1 ∙ p₂.whole ∙ put-within out at (chunk_row_bytes row) room;
        }
