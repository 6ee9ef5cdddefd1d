use Rattle.std.proofs.Common.{◌≡◌, ◌-◌, max, rules, arith, sym, refl, append-nil, get_or}
use lib.Seq.{take-length, drop-length}
use Rattle.column_window.specs.Words.{highest, tails}
use Rattle.column_window.proofs.Highest.{turn}
use Rattle.column_window.proofs.block.make_tails.Goals as goal

pub loop-i-init : goal.loop-i-init
unfolding highest tails
loop-i-init c = rw (drop-length, take-length) (refl, sym (append-nil _))

pub loop-i-preserved : goal.loop-i-preserved
loop-i-preserved c =
    let l = c.loop-i in
    let higher : c.max-best.result ≡ max (get_or l.block (l.i - 1) 0) l.best = search rules in
    turn c.args.block.now l.i (omega arith) (omega arith) l.invariant.0 l.invariant.1 higher
