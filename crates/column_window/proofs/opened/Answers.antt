-- `column_window::opened` meets its contract. Assumes nothing.
use Rattle.std.proofs.Common.{sym}
use Rattle.column_window.proofs.Answers.{opens-when, opened}
use Rattle.column_window.proofs.opened.Goals as goal

pub clear-requires : goal.clear-requires
clear-requires c = (opens-when c.args.window.now c.args.span (sym c.in_ok-check_opening.ensures)).1

pub returns : goal.returns
returns c = opened c.args.window.now c.args.span c.in_ok-check_opening.ensures c.clear.ensures
