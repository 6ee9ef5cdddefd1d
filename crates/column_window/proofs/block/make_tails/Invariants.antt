-- `column_window::block::make_tails` meets its contract. The loop's invariant: from `i` on stand the tails, and `best` is the highest there. Assumes nothing.
use Rattle.std.proofs.Common.{◌≡◌, ◌++◌, take, drop}
use Rattle.column_window.specs.Words.{highest, tails}
use Rattle.column_window.proofs.block.make_tails.Given as goal

abbrev pub invariant-loop-i : goal.invariant-loop-i
invariant-loop-i l =
    (l.best ≡ highest (drop l.i l.initial.block)) × (l.block ≡ take l.i l.initial.block ++ tails (drop l.i l.initial.block))
