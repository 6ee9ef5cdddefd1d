use native.Mathlib.Omega.{arith}
use mathlib.Core.Path.{◌∙◌}
use Rattle.job_rows.proofs.Walks.{sizes-turn, sizes-done}
use Rattle.job_rows.proofs.records.records_size.Goals as goal

pub loop-preserved : goal.loop-preserved
loop-preserved g c =
    let l = c.loop in (
      rw (c.tail-rest.ensures, c.size-k.ensures.0) (sizes-turn g.R.Record.size c.args.n l.counter l.rest.now c.loop-test.true l.size ∙ l.invariant.0),
      grind arith,
    )

pub returns : goal.returns
returns g c =
    let l = c.loop in
    let none = sizes-done g.R.Record.size c.args.n l.counter l.rest.now c.loop-test.false in
    (omega arith, grind arith)
