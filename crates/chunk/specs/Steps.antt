-- The layout between two chunks as the code holds it, beside the definitions' progress; and what of the answer is written. Definitions only.
use Rattle.std.specs.Prelude.{ℕ, ◌+◌, ◌≡◌, length}
use mathlib.Core.List.{List, [], flat_map}
use Rattle.spec.specs.Outcome.{Outcome, refused, given, and_then}
use Rattle.spec.specs.declared.Cluster.{Cluster}
use Rattle.spec.specs.Job as definitions
use Rattle.spec.specs.Answer.{chunk_row_bytes}
use Rattle.spec.specs.Layout as layout
use Rattle.spec.specs.Layout.{rows_of, adjusted_clusters, place_chunk, layout_chunk}
use Rattle.job_rows.specs.Rows.{job_at, chunk_at, glyphs_at}
use Rattle.answer_rows.specs.Chunks.{splice_if_fits}
use Rattle.chunk.specs.declared.progress.Progress.{Progress}
use Rattle.chunk.specs.declared.progress.NextChunk.{NextChunk}
use Rattle.std.specs.declared.result.Result.{Result}
use Rattle.spec.specs.declared.Refusal.{Refusal}
use Rattle.spec.specs.Refusal.{outcome_of}

-- the next chunk of the record s, and its job
abbrev pub chunk_in : List ℕ → NextChunk → definitions.Chunk
chunk_in s next = chunk_at s next.job next.at

abbrev pub job_in : List ℕ → NextChunk → definitions.Job
job_in s next = job_at s next.job

-- the definitions' progress, of which no chunk is held
abbrev pub progress_of : Progress → layout.Progress
progress_of p = record { pen = p.pen; offset = p.offset; extent = p.extent; chunks = [] }

-- the bytes of the chunks that are laid out
unfoldable pub written_bytes : layout.Progress → List ℕ
written_bytes st = flat_map chunk_row_bytes (rows_of st.chunks)

-- the progress behind those chunks, if n bytes of the answer come before them
unfoldable pub progress_after : ℕ → layout.Progress → Progress
progress_after n st = record { pen = st.pen; offset = st.offset; length = n + length (written_bytes st); extent = st.extent }

unfoldable pub result_of : ℕ → Outcome layout.Progress → Outcome Progress
result_of n (refused k) = refused k
result_of n (given st) = given (progress_after n st)

-- the buffer with those chunks' bytes from n on, if they end within it; a refusal leaves it as it was
unfoldable pub buffer_after_chunks : List ℕ → ℕ → Outcome layout.Progress → List ℕ
buffer_after_chunks out n (refused k) = out
buffer_after_chunks out n (given st) = splice_if_fits out n (written_bytes st)

-- the call returned r and left the buffer as `new`, and both are those of an outcome
pub record ChunkWritten (before : Progress) (r : Result Progress Refusal) (old new : List ℕ) (o : Outcome layout.Progress) : Type 0 where
  pub laid : outcome_of r ≡ result_of before.length o
  pub buffer : new ≡ buffer_after_chunks old before.length o

-- the chunk laid out: steps 1 to 8
abbrev pub chunk_outcome : List ℕ → NextChunk → Outcome layout.Progress
chunk_outcome s next = layout_chunk (job_in s next) (given (progress_of next.before)) (chunk_in s next)

-- a chunk behind its merge: steps 2 to 8 of the glyphs at the places `merged`
unfoldable pub merged_outcome : List ℕ → NextChunk → List ℕ → Outcome layout.Progress
merged_outcome s next merged =
    let gs = glyphs_at s merged in
    and_then (adjusted_clusters (job_in s next) (chunk_in s next) gs)
    (λ (cs : List Cluster). given (place_chunk (job_in s next) (progress_of next.before) (chunk_in s next) gs cs))
