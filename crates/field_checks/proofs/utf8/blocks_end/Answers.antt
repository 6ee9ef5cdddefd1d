use Prim.Native.Nat.{◌+◌}
use mathlib.Core.Path.{◌≡◌, sym, ◌∙◌}
use native.Mathlib.Omega.{arith}
use lib.ListN.{drop}
use Rattle.std.proofs.lemmas.List.{take_rest}
use Rattle.field_checks.specs.Skips.{Skips}
use Rattle.field_checks.proofs.Skips.{no-skip, block_skip}
use Rattle.field_checks.proofs.utf8.blocks_end.Goals as goal

pub loop-block-init : goal.loop-block-init
loop-block-init c =
    let blocks = c.chunks_exact-block-items.ensures in
    rw c.into_iter-block-iterator.ensures.into_iter_gives (no-skip _ _ (omega arith), blocks.rest ∙ take_rest c.args.text.now c.args.start, blocks.size)

-- past a block of ASCII
past : (c : goal.Else-not-all_ascii) → let i = c.loop-block.i + 16 in Skips c.args.text.now c.args.start i × (c.next.new.self.rest.now ≡ drop i c.args.text.now)
past c =
    let l = c.loop-block.invariant in
    let step = c.in-Some.ensures.steps in
    block_skip c.in-Some.block.now _ l.0 (sym l.1 ∙ step.1.0) (step.1.1 ∙ l.2) (c.all_ascii.ensures c.if-not-all_ascii.false)

pub overflow_add-i : goal.overflow_add-i
overflow_add-i c =
    let s = (past c).0 in
    omega (arith, s.inside)

pub loop-block-preserved : goal.loop-block-preserved
loop-block-preserved c =
    let s = past c in
    (s.0, s.1, c.in-Some.ensures.steps.0 ∙ c.loop-block.invariant.2)
