-- A chunk that is placed is one row: the progress stands behind it, and the row's bytes are put. Assumes nothing.
use Prim.Native.Nat.{ℕ, ◌+◌, ◌<◌}
use mathlib.Core.Path.{◌≡◌, refl, sym, ap, ◌∙◌}
use mathlib.Core.List.{List, [], ◌∷◌, map, flat_map, append-nil}
use native.Mathlib.Nat.{not-suc-le-zero}
use native.Mathlib.Omega.{arith}
use lib.ListN.{length, drop}
use lib.Ieee.{Float}
use Rattle.spec.specs.Outcome.{given, refused, and_then}
use Rattle.spec.specs.declared.Cluster.{Cluster}
use Rattle.spec.specs.declared.Point.{Point}
use Rattle.spec.specs.Job.{SpanParts}
use Rattle.spec.specs.Decode.{chunk_of}
use Rattle.spec.specs.Single.{+0}
use Rattle.spec.specs.Utf8.{characters}
use Rattle.spec.specs.Answer.{ChunkRow, chunk_row_bytes}
use Rattle.spec.specs.Layout as layout
use Rattle.spec.specs.Layout.{rows_of, cluster_row, span_rows, origin_of, pen_after, adjusted_clusters, place_chunk, resolve_clusters_positions_horizontal}
use Rattle.job_rows.specs.Head.{head_of}
use Rattle.job_rows.specs.Rows.{parts_in, glyphs_at}
use Rattle.position.specs.declared.Positioned.{Positioned}
use Rattle.position.specs.Given.{Placed}
use Rattle.answer_rows.specs.Chunks.{chunk_row, empty_row, splice_if_fits, RowWritten}
use Rattle.chunk.specs.declared.progress.Progress.{Progress}
use Rattle.chunk.specs.declared.progress.NextChunk.{NextChunk}
use Rattle.std.specs.Prelude.{Ok, Err}
use Rattle.spec.specs.declared.Refusal.{Refusal}
use Rattle.spec.specs.Refusal.{refusal_number}
use Rattle.chunk.specs.Checked.{SpannedChunk}
use Rattle.chunk.specs.Steps.{chunk_in, job_in, progress_of, written_bytes, progress_after, result_of, buffer_after_chunks, merged_outcome, ChunkWritten}

-- the anchor that is read alone is the chunk's
pub anchor-is : (s : List ℕ) (next : NextChunk) → (chunk_in s next).anchor ≡ (head_of (drop next.at s)).anchor
unfolding chunk_of head_of
anchor-is s next = refl

-- no cluster
pub none_of : (cs : List Cluster) → length cs ≡ 0 → cs ≡ []
none_of [] e = refl
none_of (c ∷ cs) e = let z : ⊥ = omega arith in absurd z

module _ (s : List ℕ) (next : NextChunk) (merged : List ℕ) where
  -- the chunk with its clusters placed
  abbrev pub chunk_placed : List Cluster → layout.Progress
  chunk_placed cs = place_chunk (job_in s next) (progress_of next.before) (chunk_in s next) (glyphs_at s merged) cs

  -- behind it the pen stands at `pen`, its characters are counted, its extent is kept, and one row is laid out
  pub record OneRow (st : layout.Progress) (pen : Point) (extent : Float) (row : ChunkRow) : Type 0 where
    pub moved : st.pen ≡ pen
    pub offset : st.offset ≡ next.before.offset + characters (chunk_in s next).text
    pub extended : st.extent ≡ extent
    pub rows : rows_of st.chunks ≡ row ∷ []

  module _ {st : layout.Progress} {pen : Point} {extent : Float} {row : ChunkRow} (o : OneRow st pen extent row) where
    pub one-bytes : written_bytes st ≡ chunk_row_bytes row
    unfolding written_bytes flat_map
    one-bytes = ap (flat_map chunk_row_bytes) o.rows ∙ append-nil (chunk_row_bytes row)

    one-progress : {k : ℕ} → k ≡ length (chunk_row_bytes row)
        → ◌≡◌ {A = Progress} (record { pen = pen; offset = next.before.offset + characters (chunk_in s next).text; length = next.before.length + k; extent = extent }) (progress_after next.before.length st)
    unfolding progress_after
    one-progress e = rw (one-bytes, o.moved, o.offset, o.extended, e) refl

    -- the row is written, and its bytes and the chunk's characters are counted on
    pub one-laid : {cs : List Cluster} → adjusted_clusters (job_in s next) (chunk_in s next) (glyphs_at s merged) ≡ given cs → chunk_placed cs ≡ st
        → {text : List ℕ} → text ≡ (chunk_in s next).text
        → {k : ℕ} {old new : List ℕ} → RowWritten next.before.length k old new row
        → {behind : Progress} → behind ≡ record { pen = pen; offset = next.before.offset + characters text; length = next.before.length + k; extent = extent }
        → ChunkWritten next.before (Ok behind) old new (merged_outcome s next merged)
    unfolding merged_outcome and_then result_of buffer_after_chunks
    one-laid e is t {old = old} written b =
        rw (e, is)
        (record { laid = ap given (b ∙ rw t (one-progress written.length)); buffer = written.buffer ∙ ap (splice_if_fits old next.before.length) (sym one-bytes) })

  pub refused-merged : {r : Refusal} {old : List ℕ} → adjusted_clusters (job_in s next) (chunk_in s next) (glyphs_at s merged) ≡ refused (refusal_number r)
      → ChunkWritten next.before (Err r) old old (merged_outcome s next merged)
  unfolding merged_outcome and_then result_of buffer_after_chunks
  refused-merged e = rw e (record { laid = refl; buffer = refl })

  -- of a chunk that has no cluster
  pub empty-row : OneRow (chunk_placed []) next.before.pen +0 (empty_row next.before.pen)
  unfolding place_chunk
  empty-row = record { moved = refl; offset = refl; extended = refl; rows = refl }

  pub clusters-row : {spans : List ℕ} → SpannedChunk s next spans → (cs ds : List Cluster) → 0 < length cs → (p : Positioned)
      → Placed (resolve_clusters_positions_horizontal (job_in s next) next.before.offset (chunk_in s next) cs) ds p
      → (origin pen : Point) → origin ≡ origin_of next.before.pen (chunk_in s next) → pen ≡ pen_after next.job.mode origin p.end_x p.end_y
      → OneRow (chunk_placed cs) pen p.extent (chunk_row (job_in s next) origin pen (glyphs_at s merged) ds (parts_in s spans))
  unfolding place_chunk
  clusters-row places [] ds h p is origin pen eo ep = absurd (not-suc-le-zero h)
  clusters-row {spans} places (c ∷ cs) ds h p is origin pen eo ep =
      let q = resolve_clusters_positions_horizontal (job_in s next) next.before.offset (chunk_in s next) (c ∷ cs) in
      let pen-is : pen ≡ pen_after next.job.mode (origin_of next.before.pen (chunk_in s next)) q.end_x q.end_y = ep ∙ rw (eo, is.end_x, is.end_y) refl in
      record { moved = sym pen-is; offset = refl; extended = sym is.extent; rows = ap (λ (r : ChunkRow). r ∷ []) (sym (row_of places.parts is.clusters eo pen-is)) }
    where
      row_of : {ps : List SpanParts} {es : List Cluster} {origin' pen' : Point} → parts_in s spans ≡ ps → ds ≡ es → origin ≡ origin' → pen ≡ pen'
          → ◌≡◌ {A = ChunkRow} (chunk_row (job_in s next) origin pen (glyphs_at s merged) ds (parts_in s spans))
          (record { pen_x = pen'.x; pen_y = pen'.y; clusters = map (cluster_row next.job.mode (glyphs_at s merged)) es; spans = span_rows (job_in s next) origin' es 0 ps })
      row_of a b c d = rw (a, b, c, d)
