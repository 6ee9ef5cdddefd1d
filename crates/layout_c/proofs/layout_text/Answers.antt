-- `layout_c::layout_text` meets its contract: the result's fields are the answer's number and length. Assumes nothing.
use Rattle.layout_c.proofs.layout_text.Goals as goal

pub returns : goal.returns
returns c = rw (c.result_of.ensures.0, c.result_of.ensures.1) c.layout_text.ensures
