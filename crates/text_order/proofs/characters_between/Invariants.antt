-- `text_order::characters_between` meets its contract. Assumes nothing.
use mathlib.Core.Path.{◌≡◌}
use lib.ListN.{take}
use Rattle.spec.specs.Utf8.{characters}
use Rattle.text_order.proofs.characters_between.Given as goal

abbrev pub invariant-loop-b : goal.invariant-loop-b
invariant-loop-b l = l.count ≡ characters (take l.b-index l.part)
