-- `text_form::show::show_rows` meets its contract. The loop's invariant: what stands behind the rows that are left stays the same.
-- Assumes nothing.
use Rattle.std.proofs.Common.{◌≡◌, ◌-◌, drop}
use Rattle.text_form.specs.Walk.{behind}
use Rattle.text_form.proofs.show.show_rows.Given as goal

abbrev pub invariant-loop-i : goal.invariant-loop-i
invariant-loop-i g l =
    behind g.R.Rows.size_of (l.count - l.i) (drop l.at l.bytes) ≡ behind g.R.Rows.size_of l.count (drop l.first l.bytes)
