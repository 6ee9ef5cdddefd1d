-- `answer_rows::spans::put_span_rows` meets its contract. Assumes nothing.
use Rattle.job_rows.specs.Rows.{job_at}
use Rattle.answer_rows.proofs.SpanRows.{SpansLeft}
use Rattle.answer_rows.proofs.spans.put_span_rows.Given as goal

abbrev pub invariant-loop-k : goal.invariant-loop-k
invariant-loop-k l = SpansLeft (job_at l.s l.job) l.origin l.clusters l.s l.spans l.initial.out l.at l.out l.here l.k
