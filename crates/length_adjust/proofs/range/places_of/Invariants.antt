-- `length_adjust::range::places_of` meets its contract. Assumes nothing.
use mathlib.Core.Path.{◌≡◌}
use lib.ListN.{drop}
use Rattle.length_adjust.proofs.Places.{lowest, past}
use Rattle.length_adjust.proofs.range.places_of.Given as goal

abbrev pub invariant-loop-key : goal.invariant-loop-key
invariant-loop-key l =
    let left = drop l.key-index l.keys in
    (lowest l.from left ≡ lowest 65536 l.keys) × (past l.to left ≡ past 0 l.keys)
