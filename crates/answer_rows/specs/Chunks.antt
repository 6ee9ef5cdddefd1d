-- A chunk's row, and what stands in it before the rows of its clusters. Definitions only.
use Rattle.std.specs.Prelude.{ℕ, ◌+◌, ◌*◌, ◌≤◌, ◌≡◌, true, cond, List, [], ◌++◌, map, leb, length}
use Rattle.spec.specs.declared.Point.{Point}
use Rattle.spec.specs.declared.Glyph.{Glyph}
use Rattle.spec.specs.declared.Cluster.{Cluster}
use Rattle.spec.specs.declared.Job.{Job}
use Rattle.spec.specs.Job as definitions
use Rattle.spec.specs.Bytes.{bytes, float_bytes}
use Rattle.spec.specs.Answer.{ChunkRow, chunk_head_size, glyph_row_size, run_size, cluster_row_size, span_row_size, chunk_row_length, chunk_row_bytes}
use Rattle.spec.specs.Layout.{cluster_row, span_rows}
use Rattle.wire.specs.Splice.{splice}
use Rattle.job_rows.specs.Rows.{glyphs_at, parts_in, job_at}
use Rattle.answer_rows.specs.Glyphs.{units_in}
use Rattle.answer_rows.specs.declared.chunk.Frame.{Frame}

-- with the pen as it is after the chunk, the merged glyphs, the clusters after step 7, and the spans
abbrev pub chunk_row : definitions.Job → Point → Point → List Glyph → List Cluster → List definitions.SpanParts → ChunkRow
chunk_row job origin pen gs cs parts =
    record { pen_x = pen.x; pen_y = pen.y; clusters = map (cluster_row job.mode gs) cs; spans = span_rows job origin cs 0 parts }

-- of a chunk that has no cluster, and so no span rows
abbrev pub empty_row : Point → ChunkRow
empty_row pen = record { pen_x = pen.x; pen_y = pen.y; clusters = []; spans = [] }

-- of so many cluster rows and span rows
unfoldable pub chunk_head_bytes : ℕ → ℕ → Point → List ℕ
chunk_head_bytes clusters spans pen = bytes 2 clusters ++ (bytes 1 spans ++ (float_bytes pen.x ++ float_bytes pen.y))

-- the row of those clusters and spans has r bytes: in any job, wherever origin and pen are, with any merged list of `count` glyphs
abbrev pub RowLength : ℕ → ℕ → List Cluster → List definitions.SpanParts → Type 0
RowLength r count cs parts = (job : definitions.Job) (origin pen : Point) (gs : List Glyph) → length gs ≡ count → r ≡ chunk_row_length (chunk_row job origin pen gs cs parts)

-- how long a row of so many spans, merged glyphs and clusters is at most: no glyph is left out, each span has a row, each cluster begins a run
abbrev pub chunk_row_max : ℕ → ℕ → ℕ → ℕ
chunk_row_max spans count n = chunk_head_size + (cluster_row_size 0 + run_size) * n + glyph_row_size * count + span_row_size 0 * spans

-- ---- a row from what the code lends: the record s, and of it the job, the spans and the merged glyphs by their places

abbrev pub row_at : List ℕ → Job → List ℕ → List ℕ → Frame → List Cluster → ChunkRow
row_at s job spans merged frame cs =
    chunk_row (job_at s job) frame.origin frame.pen (glyphs_at s merged) cs (parts_in s spans)

-- no count overflows, and the glyphs' numbers are in range
pub record Writable (s spans merged : List ℕ) (cs : List Cluster) : Type 0 where
  pub few_spans : length spans ≤ 255
  pub few_glyphs : length merged ≤ 65_536
  pub few_clusters : length cs ≤ 65_535
  pub units : units_in (glyphs_at s merged) ≡ true

-- the buffer with the bytes at `at`, if they end within it; else as it was
unfoldable pub splice_if_fits : List ℕ → ℕ → List ℕ → List ℕ
splice_if_fits out at bs = cond (leb (at + length bs) (length out)) (splice out at bs) out

-- r is the row's length, and the row stands at `at` if it ends within the buffer
pub record RowWritten (at r : ℕ) (old new : List ℕ) (row : ChunkRow) : Type 0 where
  pub length : r ≡ length (chunk_row_bytes row)
  pub buffer : new ≡ splice_if_fits old at (chunk_row_bytes row)
