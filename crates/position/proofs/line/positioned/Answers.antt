-- `position::line::positioned` meets its contract. First and last are found by the keys of the text order. Assumes nothing.
use Prim.Native.Nat.{◌-◌}
use native.Mathlib.Omega.{arith}
use lib.ListN.{length}
use Rattle.text_order.proofs.Keys.{blank}
use Rattle.text_order.proofs.Order.{place_inside}
use Rattle.position.proofs.Ends.{ended}
use Rattle.position.proofs.line.positioned.Goals as goal

pub slice_copy_out-first : goal.slice_copy_out-first
slice_copy_out-first c = omega (arith, c.place_of.ensures, place_inside c.requires.1 0 c.requires.0)

pub slice_copy_out-last : goal.slice_copy_out-last
slice_copy_out-last c =
    omega (arith, c.place_of-2.ensures, place_inside c.requires.1 (length c.args.clusters.now - 1) (omega (arith, c.requires.0)))

pub positioned_between-requires : goal.positioned_between-requires
positioned_between-requires c =
    ended c.place_of.result c.place_of-2.result blank c.requires.1 c.requires.0 c.place_of.ensures c.place_of-2.ensures
