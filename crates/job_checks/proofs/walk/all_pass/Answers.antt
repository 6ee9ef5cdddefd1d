use mathlib.Core.Path.{refl}
use mathlib.Core.Bool.{true, false}
use Rattle.std.proofs.lemmas.Fn.{says_at}
use Rattle.job_checks.proofs.Passing.{each-on, each-last, each-stop, each-done}
use native.Mathlib.Omega.{arith}
use Rattle.job_checks.proofs.walk.all_pass.Goals as goal

pub returns-then-not-passes : goal.returns-then-not-passes
returns-then-not-passes g c = λ test tests.
    let l = c.loop-left in
    rw (← l.invariant test tests) (each-stop g.R.Record.size test l.left l.rest.now (omega arith) (tests _ false (says_at g.F.Fn c.if-not-passes.ensures refl)))

pub loop-left-preserved-then-left-gt0 : goal.loop-left-preserved-then-left-gt0
loop-left-preserved-then-left-gt0 g c = λ test tests.
    let l = c.loop-left in
    rw (c.tail-rest.ensures, c.size.ensures.0, ← l.invariant test tests)
    (each-on g.R.Record.size test l.left l.rest.now (omega arith) (tests _ true (says_at g.F.Fn c.if-not-passes.ensures refl)))

pub loop-left-preserved : goal.loop-left-preserved
loop-left-preserved g c = λ test tests.
    let l = c.loop-left in
    rw (← l.invariant test tests)
    (each-last g.R.Record.size test l.left l.rest.now (omega arith) (omega arith) (tests _ true (says_at g.F.Fn c.if-not-passes.ensures refl)))

pub returns : goal.returns
returns g c = λ test tests.
    let l = c.loop-left in
    rw (← l.invariant test tests) (each-done g.R.Record.size test l.left l.rest.now (omega arith))
