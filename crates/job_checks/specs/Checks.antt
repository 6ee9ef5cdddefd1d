-- What the checks are given of a record. Definitions only.
use Rattle.std.specs.Prelude.{ℕ, ◌<◌, ◌≡◌, List}
use Rattle.spec.specs.declared.Job.{Job}
use Rattle.spec.specs.Decode.{chunk_bytes, chunk_count}
use Rattle.spec.specs.Check.{after_version}
use Rattle.job_checks.specs.Verdict.{places_of}

-- the places of the parts of its job, the bytes from the first chunk on, and the chunk count
pub record Found (s : List ℕ) (job : Job) (behind : List ℕ) (n : ℕ) : Type 0 where
  pub places : job ≡ places_of s
  pub chunks : behind ≡ chunk_bytes (after_version s)
  pub count : n ≡ chunk_count (after_version s)
  pub byte : n < 256
