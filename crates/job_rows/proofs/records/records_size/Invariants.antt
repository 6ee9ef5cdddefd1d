-- `job_rows::records::records_size` meets its contract. The loop's invariant: what was added and the sizes that are left are the whole.
-- Assumes nothing.
use Prim.Native.Nat.{◌+◌, ◌-◌, ◌*◌, ◌≤◌}
use mathlib.Core.Path.{◌≡◌}
use Rattle.spec.specs.Bytes.{sizes}
use Rattle.job_rows.proofs.records.records_size.Given as goal

abbrev pub invariant-loop : goal.invariant-loop
invariant-loop g l =
    let size = g.R.Record.size in
    (l.size + sizes size (l.n - l.counter) l.rest ≡ sizes size l.n l.records) × (l.size ≤ l.counter * g.R.Record.most)
