-- `replay::replay_records` meets its contract. The loop's invariant: no more records agree than were walked. Assumes nothing.
use Prim.Native.Nat.{◌≤◌, ◌-◌}
use Rattle.replay.proofs.replay_records.Given as goal

abbrev pub invariant-loop : goal.invariant-loop
invariant-loop g l = (l.agree ≤ l.counter) × (l.counter ≤ l.count)

abbrev pub decreases-loop : goal.decreases-loop
decreases-loop g l = l.count - l.counter
