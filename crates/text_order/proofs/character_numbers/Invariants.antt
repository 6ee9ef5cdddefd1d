-- `text_order::character_numbers` meets its contract. Assumes nothing.
use Prim.Native.Nat.{◌≤◌, ◌<◌}
use mathlib.Core.Path.{◌≡◌}
use lib.ListN.{length, take}
use Rattle.spec.specs.Position.{character_number}
use Rattle.text_order.proofs.Order.{index_in, written}
use Rattle.text_order.proofs.character_numbers.Given as goal

abbrev pub invariant-loop-key : goal.invariant-loop-key
invariant-loop-key l =
    let order = take (length l.clusters) l.order in
    (l.number ≡ character_number l.text l.offset l.at)
    × (l.key-index < length l.clusters → l.at ≤ index_in order l.clusters l.key-index)
    × written (character_number l.text l.offset) order l.clusters l.numbers l.key-index
