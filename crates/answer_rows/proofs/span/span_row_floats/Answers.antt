-- `answer_rows::span::span_row_floats` meets its contract. Assumes nothing.
use Rattle.spec.specs.Decode.{parts_of}
use Rattle.spec.specs.Layout.{span_row}
use Rattle.answer_rows.proofs.span.span_row_floats.Goals as goal

pub returns : goal.returns
unfolding span_row parts_of
returns c cs k =
    let span = c.requires in
    let font = c.font_in-font.ensures in
    let shift = c.resolve_baseline-shift.ensures in
    let thick = c.thickness-thick.ensures in
    let under = c.under_offset-under.ensures in
    let over = c.over_offset-over.ensures in
    let through = c.through_offset-through.ensures in
    rw (shift, thick, under, over, through, font, span)
