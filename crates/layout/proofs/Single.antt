-- A job of one chunk: its layout is the job's. And how many chunks there are. Assumes nothing.
use Prim.Native.Nat.{ℕ, ◌+◌}
use mathlib.Core.Path.{◌≡◌, refl, sym, ◌∙◌}
use mathlib.Core.List.{List}
use lib.ListN.{length}
use lib.Dec.{lit<}
use Rattle.spec_laws.proofs.Records.{length-rows}
use Rattle.spec.specs.Bytes.{rows}
use Rattle.spec.specs.declared.Job.{Job}
use Rattle.spec.specs.Decode.{chunk_count_bytes}
use Rattle.spec.specs.Answer.{answer_head_size}
use Rattle.spec.specs.Layout.{beginning}
use Rattle.job_rows.specs.Rows.{job_at}
use Rattle.std.specs.declared.result.Result.{Result}
use Rattle.spec.specs.declared.Refusal.{Refusal}
use Rattle.chunk.specs.declared.progress.Progress.{Progress}
use Rattle.chunk.specs.declared.progress.NextChunk.{NextChunk}
use Rattle.chunk.specs.Checked.{CheckedChunk}
use Rattle.chunk.specs.Steps.{progress_after, chunk_outcome, ChunkWritten}
use Rattle.layout.specs.Checked.{chunk_count_in, CheckedJob}
use Rattle.layout.specs.Steps.{ChunksWritten, job_outcome}
use Rattle.layout.proofs.ChunksLeft.{head, begun, begun-laid, chunk-checked, then-laid}

module _ {s : List ℕ} {job : Job} (k : CheckedJob s job) (one : chunk_count_in s job ≡ 1) {before : Progress} (e : before ≡ progress_after answer_head_size beginning) where
  abbrev at : ℕ
  at = job.chunks + chunk_count_bytes

  abbrev only : NextChunk
  only = record { job = job; at = at; before = before }

  pub single-checked : CheckedChunk s only
  single-checked = chunk-checked s job before at 1 (lit< tt) (begun k refl (sym one) e) k

  job_is : chunk_outcome s only ≡ job_outcome s job
  unfolding rows
  job_is = sym (then-laid s job before at 1 (lit< tt)) ∙ begun-laid k refl (sym one) e

  pub single-laid : {r : Result Progress Refusal} {old new : List ℕ} → ChunkWritten before r old new (chunk_outcome s only) → ChunksWritten (job_outcome s job) r old new
  single-laid b = record { laid = rw (← job_is, ← (head k refl (sym one) e)) b.laid; buffer = rw (← job_is, ← (head k refl (sym one) e)) b.buffer }

-- a chunk is counted for each
pub count-of-chunks : (s : List ℕ) (job : Job) {count : ℕ} → count ≡ chunk_count_in s job → count ≡ length (job_at s job).chunks
count-of-chunks s job e = e ∙ sym (length-rows _ _ _ _)
