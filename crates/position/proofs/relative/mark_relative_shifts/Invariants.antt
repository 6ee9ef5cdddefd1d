-- `position::relative::mark_relative_shifts` meets its contract. The loop's invariant: the byte indexes are what they were, and the
-- clusters, once those from i on are marked, are those of the definition. Assumes nothing.
use Prim.Native.Nat.{ℕ}
use mathlib.Core.Path.{◌≡◌}
use mathlib.Core.List.{List}
use Rattle.spec.specs.Arithmetic.{indexes}
use Rattle.spec.specs.Position.{marked, mark_relative_shifts}
use Rattle.spec.specs.Cluster.{rounded}
use Rattle.spec.proofs.Loops.{halfway}
use Rattle.job_rows.specs.Rows.{job_at}
use Rattle.position.specs.Given.{CharacterNumbersOf}
use Rattle.position.proofs.Marking.{last}
use Rattle.position.proofs.relative.mark_relative_shifts.Given as goal

abbrev pub invariant-loop-i : goal.invariant-loop-i
invariant-loop-i l =
    (indexes rounded l.clusters ≡ indexes rounded l.initial.clusters)
    × ((text : List ℕ) (offset : ℕ) → CharacterNumbersOf text offset l.numbers l.initial.clusters
    → halfway last (marked (job_at l.fn.s l.fn.job) text offset) l.before l.clusters l.i
    ≡ mark_relative_shifts (job_at l.fn.s l.fn.job) text offset l.initial.clusters)
