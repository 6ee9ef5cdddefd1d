-- `position::shifts::resolve_relative_shifts` meets its contract. The loop's invariant: the byte indexes are what they were, and the clusters,
-- once those from the index on in text order have taken their shifts, are those of the definition. Assumes nothing.
use Prim.Native.Nat.{ℕ}
use mathlib.Core.Path.{◌≡◌}
use mathlib.Core.List.{List}
use Rattle.spec.specs.Arithmetic.{indexes}
use Rattle.spec.specs.Position.{resolve_relative_shifts}
use Rattle.spec.specs.Cluster.{rounded}
use Rattle.job_rows.specs.Rows.{job_at}
use Rattle.position.specs.Given.{CharacterNumbersOf}
use Rattle.position.proofs.Shifting.{shifted}
use Rattle.position.proofs.shifts.resolve_relative_shifts.Given as goal

abbrev pub invariant-loop-key : goal.invariant-loop-key
invariant-loop-key l =
    (indexes rounded l.clusters ≡ indexes rounded l.initial.clusters)
    × ((text : List ℕ) (offset : ℕ) → CharacterNumbersOf text offset l.numbers l.initial.clusters
    → (shifted (job_at l.fn.s l.fn.job) text offset l.initial.clusters l.x l.y l.clusters l.key-index).clusters
    ≡ resolve_relative_shifts rounded (job_at l.fn.s l.fn.job) text offset l.initial.clusters)
