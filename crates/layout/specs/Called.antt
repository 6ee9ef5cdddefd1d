-- What the call promises, whatever the job's bytes and the lent buffer. Definitions only.
use Rattle.std.specs.Prelude.{ℕ, ◌*◌, ◌≤◌, ◌≡◌, List, length}
use Rattle.spec.specs.Outcome.{given}
use Rattle.spec.specs.Check.{checked}
use Rattle.spec.specs.Layout.{layout_of, number_of, length_of, buffer_after}
use Rattle.spec.specs.Exact.{NearAnswer}

-- The call with the job's bytes `job` and a buffer that holds `old`: it returns the number `returned` and the length `size`, and leaves the buffer as `new`.
pub record LayoutPromise (job old : List ℕ) (returned size : ℕ) (new : List ℕ) : Type 0 where
  -- document 01's number
  pub number : returned ≡ number_of (layout_of job (length old))
  -- the answer's whole length; 0 where the job is refused
  pub written : size ≡ length_of (layout_of job (length old))
  -- every byte of the buffer: the answer and then the old bytes past it; all the old bytes where the job is refused
  pub buffer : new ≡ buffer_after (layout_of job (length old)) old
  -- an answer has at most 64 / 25 of its job's bytes, and no answer has more than 167,772
  pub bound : 25 * size ≤ 64 * length job
  pub small : size ≤ 167_772
  -- so a buffer of three times the job's bytes is never too short; and one of 167,772 bytes is enough for every job
  pub enough : 3 * length job ≤ length old → ¬ (returned ≡ 10)
  pub always : 167_772 ≤ length old → ¬ (returned ≡ 10)
  -- demand 3, of every job that is accepted: the buffer's bytes hold the clusters of the exact layout, each offset near its own
  pub near : (answer : List ℕ) → layout_of job (length old) ≡ given answer → NearAnswer (checked job) new
