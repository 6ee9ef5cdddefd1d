-- `layout::staging::layout_all` meets its contract: one chunk by itself, sure ones straight, any others aside. Assumes nothing.
use mathlib.Core.Path.{sym, ◌∙◌}
use lib.ListN.{length}
use borrow.Author.Tests.{ltb-true}
use Rattle.layout.proofs.Single.{single-checked, single-laid}
use Rattle.layout.proofs.Straight.{straight-fits}
use Rattle.layout.proofs.staging.layout_all.Goals as goal

pub layout_chunk-requires : goal.layout_chunk-requires
layout_chunk-requires c =
    single-checked c.args.checked.passed (sym c.count_of.ensures.0 ∙ c.if-count_of-eq1.true) c.beginning-before.ensures

pub returns-then-count_of-eq1 : goal.returns-then-count_of-eq1
returns-then-count_of-eq1 c =
    single-laid c.args.checked.passed (sym c.count_of.ensures.0 ∙ c.if-count_of-eq1.true) c.beginning-before.ensures c.layout_chunk.ensures

pub returns-then-all_sure : goal.returns-then-all_sure
returns-then-all_sure c =
    let room = ltb-true _ _ (sym c.has_room.ensures ∙ c.if-has_room.true) in
    let fits = straight-fits c.args.checked.passed (sym c.all_sure.ensures ∙ c.if-all_sure.true) (length c.args.answer.now) room in
    record { laid = c.layout_chunks.ensures.0; buffer = c.layout_chunks.ensures.1 fits }
