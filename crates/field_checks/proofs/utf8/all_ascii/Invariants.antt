-- `field_checks::utf8::all_ascii` meets its contract. The loop's invariant: where the flag is set, the bytes so far are ASCII. Assumes nothing.
use Prim.Native.Nat.{ℕ, ◌<◌}
use mathlib.Core.Path.{◌≡◌}
use mathlib.Core.Bool.{true}
use lib.ListN.{get_or}
use Rattle.field_checks.proofs.utf8.all_ascii.Given as goal

abbrev pub invariant-loop-b : goal.invariant-loop-b
invariant-loop-b l = l.ascii ≡ true → (k : ℕ) → k < l.b-index → get_or l.block k 0 < 0x80
