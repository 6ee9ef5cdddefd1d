-- `chunk::pen::pen_after` meets its contract. Assumes nothing.
use borrow.Author.Tests.{eq-eqb, ne_eqb}
use Rattle.spec.specs.Layout.{pen_after}
use Rattle.chunk.proofs.pen.pen_after.Goals as goal

pub returns-then-mode-eq-TOP_TO_BOTTOM : goal.returns-then-mode-eq-TOP_TO_BOTTOM
unfolding pen_after
returns-then-mode-eq-TOP_TO_BOTTOM c = rw (eq-eqb c.args.mode 1 c.if-mode-eq-TOP_TO_BOTTOM.true)

pub returns : goal.returns
unfolding pen_after
returns c = rw (ne_eqb c.args.mode 1 c.if-mode-eq-TOP_TO_BOTTOM.false)
