-- `column_window::words::clear` meets its contract. Assumes nothing.
use Rattle.column_window.proofs.Stored.{opened-words}
use Rattle.column_window.proofs.words.clear.Goals as goal

pub returns : goal.returns
returns c =
    opened-words c.args.window.now c.args.span c.requires (c.fill.ensures.after (λ y h. h))
