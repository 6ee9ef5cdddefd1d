-- `job_rows::numbered::span_in` meets its contract. Assumes nothing.
use Rattle.std.proofs.lemmas.List.{get_or-map}
use Rattle.spec.specs.Job.{blank_span}
use Rattle.job_rows.specs.Rows.{spans_in}
use Rattle.job_rows.proofs.ByNumber.{map-past}
use Rattle.job_rows.proofs.numbered.span_in.Goals as goal

pub returns-in-Some : goal.returns-in-Some
unfolding spans_in
returns-in-Some c =
    let found = c.in-Some.ensures.lookup.3 in
    rw (c.span_at.ensures, get_or-map _ c.args.places.now c.args.k 0 blank_span found.0, ← found.1 0)

pub returns-in-None : goal.returns-in-None
unfolding spans_in
returns-in-None c = rw (c.blank_span.ensures, map-past _ c.args.places.now c.args.k blank_span c.in-None.ensures.lookup.3)
