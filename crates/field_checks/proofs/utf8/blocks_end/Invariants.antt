-- `field_checks::utf8::blocks_end` meets its contract. The loop's invariant: the blocks so far are skipped, and what follows them is left. Assumes nothing.
use mathlib.Core.Path.{◌≡◌}
use lib.ListN.{drop}
use Rattle.field_checks.specs.Skips.{Skips}
use Rattle.field_checks.proofs.utf8.blocks_end.Given as goal

abbrev pub invariant-loop-block : goal.invariant-loop-block
invariant-loop-block l =
    let blocks = l.block-iterator in
    Skips l.text l.start l.i × (blocks.rest.now ≡ drop l.i l.text) × (blocks.size ≡ 16)
