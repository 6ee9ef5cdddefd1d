-- `answer_rows::span::has_row` meets its contract. Assumes nothing.
use Rattle.spec.specs.Decode.{span_of, parts_of}
use Rattle.answer_rows.proofs.span.has_row.Goals as goal

pub returns : goal.returns
unfolding parts_of span_of
returns c = rw (c.u8_at.ensures, c.tail.ensures)
