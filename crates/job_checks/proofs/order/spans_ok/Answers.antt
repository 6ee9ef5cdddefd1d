-- `job_checks::order::spans_ok` meets its contract. Assumes nothing.
use Rattle.job_checks.proofs.Orders.{chunk-order}
use mathlib.Core.Path.{refl}
use Rattle.job_checks.proofs.order.spans_ok.Goals as goal

pub returns : goal.returns
returns c =
    rw (
      chunk-order c.args.chunk.now,
      c.spans_ordered.ensures,
      c.span_count.ensures.0,
      c.span_bytes.ensures,
      c.text_of-text.ensures,
    )
    refl
