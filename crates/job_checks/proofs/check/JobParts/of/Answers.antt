-- `job_checks::check::JobParts::of` meets its contract. Assumes nothing.
use borrow.Author.Rules.{rules}
use Rattle.job_checks.proofs.Places.{chunks-read}
use Rattle.job_checks.proofs.check.JobParts.of.Goals as goal

pub invariant_of-result : goal.invariant_of-result
invariant_of-result c = record {
  found = chunks-read _ c.places-job.ensures c.tail-counted.ensures c.tail.ensures c.u8_at.ensures (search rules);
}
