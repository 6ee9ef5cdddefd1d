-- `decoration::put_ended` meets its contract. Assumes nothing.
use mathlib.Core.Path.{sym}
use Rattle.wire.proofs.Splice.{splice-none}
use Rattle.decoration.proofs.Runs.{one_ended, none-ended, none-started}
use Rattle.decoration.proofs.put_ended.Goals as goal

pub returns-in_default : goal.returns-in_default
returns-in_default c =
    rw (none-started c.args.o c.args.next c.in_default.not-Some) (sym (splice-none c.args.out.now _))

pub returns-then-o-next : goal.returns-then-o-next
returns-then-o-next c =
    rw (one_ended c.args.o c.args.next _ c.in-Some.is c.if-o-next.true) c.put_run.ensures

pub returns-else-o-next : goal.returns-else-o-next
returns-else-o-next c =
    rw (none-ended c.args.o c.args.next c.if-o-next.false) (sym (splice-none c.args.out.now _))
