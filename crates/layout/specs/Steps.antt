-- The chunks of a job laid out in order, and what of its answer is written. Definitions only.
use Rattle.std.specs.Prelude.{ℕ, ◌+◌, ◌≡◌, Bool, false, length, leb}
use mathlib.Core.List.{List, foldl}
use Rattle.spec.specs.Outcome.{Outcome, refused, given, and_then}
use Rattle.spec.specs.declared.Job.{Job}
use Rattle.spec.specs.Answer.{answer_head_size}
use Rattle.spec.specs.Layout.{Progress, beginning, rows_of, layout_chunk, fitting}
use Rattle.job_rows.specs.Rows.{job_at}
use Rattle.std.specs.declared.result.Result.{Result}
use Rattle.spec.specs.declared.Refusal.{Refusal}
use Rattle.spec.specs.Refusal.{outcome_of}
use Rattle.chunk.specs.declared.progress.Progress as code
use Rattle.chunk.specs.Steps.{written_bytes, result_of, buffer_after_chunks}

-- the chunks of the job that stands at these places of the record, laid out in order
unfoldable pub job_outcome : List ℕ → Job → Outcome Progress
job_outcome s job = foldl (layout_chunk (job_at s job)) (given beginning) (job_at s job).chunks

-- the answer has room
unfoldable pub fits_in : ℕ → Outcome Progress → Bool
fits_in room (refused k) = false
fits_in room (given st) = leb (answer_head_size + length (written_bytes st)) room

-- the layout of the whole job, and the buffer: the rows stand there exactly if no chunk is refused and the answer has room
pub record ChunksWritten (o : Outcome Progress) (r : Result code.Progress Refusal) (old new : List ℕ) : Type 0 where
  pub laid : outcome_of r ≡ result_of answer_head_size o
  pub buffer : new ≡ buffer_after_chunks old answer_head_size o

-- the answer of the chunks laid out, or 10
unfoldable pub answered : Outcome Progress → ℕ → Outcome (List ℕ)
answered o room = and_then o (λ (st : Progress). fitting room (rows_of st.chunks))
