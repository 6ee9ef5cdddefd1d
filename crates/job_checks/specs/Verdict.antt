-- The answer to a record: document 01's refusal number, or the places of the job that it holds. Definitions only.
use Rattle.std.specs.Prelude.{ℕ, ◌+◌, List}
use Rattle.spec.specs.declared.Job.{Job}
use Rattle.spec.specs.Outcome.{Outcome, refused, given, and_then, first_failing}
use Rattle.spec.specs.Bytes.{be}
use Rattle.spec.specs.Decode.{font_count, dx_at, dy_at, rotate_at, chunk_count_at}
use Rattle.spec.specs.Check.{checks, after_version}

-- document 01's number: 0 for an accepted job
unfoldable pub verdict_number : Outcome Job → ℕ
verdict_number (refused n) = n
verdict_number (given job) = 0

-- the writing mode, the font count, and where in the record the lists and the chunk count stand
unfoldable pub places_of : List ℕ → Job
places_of bs =
    let rest = after_version bs in
    record {
      mode = be 1 rest;
      fonts = font_count rest;
      dx = 5 + dx_at rest;
      dy = 5 + dy_at rest;
      rotate = 5 + rotate_at rest;
      chunks = 5 + chunk_count_at rest;
    }

-- refused with the number of the first check that the record does not pass
unfoldable pub verdict_of : List ℕ → Outcome Job
verdict_of bs = and_then (first_failing checks bs) (λ (passed : Unit {0}). given (places_of bs))
