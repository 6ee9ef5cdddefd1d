-- What the checks have shown of a job. Definitions only.
use Rattle.std.specs.Prelude.{ℕ, ◌+◌, ◌≤◌, ◌≡◌, List, length, drop, T}
use Rattle.spec.specs.Outcome.{given}
use Rattle.spec.specs.Bytes.{be, all_records}
use Rattle.spec.specs.Lists.{all}
use Rattle.spec.specs.declared.Job.{Job}
use Rattle.spec.specs.Job.{limits}
use Rattle.spec.specs.Decode.{chunk_count_bytes, chunk_size, chunk_fits}
use Rattle.spec.specs.Check.{checked, chunk_ok}
use Rattle.job_rows.specs.Rows.{job_at}

-- how many chunks the job has
abbrev pub chunk_count_in : List ℕ → Job → ℕ
chunk_count_in s job = be chunk_count_bytes (drop job.chunks s)

-- the record passes the checks, the job's places are its own, and so all its chunks pass checks 3 and 4
pub record CheckedJob (s : List ℕ) (job : Job) : Type 0 where
  pub passed : checked s ≡ given (job_at s job)
  pub size : length s ≤ limits.bytes
  pub begins : job.chunks + chunk_count_bytes ≤ length s
  pub fits : T (all_records chunk_size chunk_fits (chunk_count_in s job) (drop (job.chunks + chunk_count_bytes) s))
  pub ok : T (all (chunk_ok job.fonts) (job_at s job).chunks)
