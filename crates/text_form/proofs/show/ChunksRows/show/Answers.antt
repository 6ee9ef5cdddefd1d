-- `text_form::show::Chunks::show` meets its contract. Assumes nothing.
use Rattle.std.proofs.Common.{◌∙◌}
use Rattle.text_form.proofs.Chunk.{behind-chunk}
use Rattle.text_form.proofs.show.ChunksRows.show.Goals as goal

pub returns : goal.returns
returns g c =
    let clusters = c.from-clusters in
    let spans = c.from-spans in
    let first = c.show_rows-first_span in
    let end = c.show_rows in
    behind-chunk c.args.chunk.now clusters.result spans.result first.result end.result (clusters.ensures ∙ c.u16_at.ensures) (spans.ensures ∙ c.u8_at.ensures)
    first.ensures end.ensures
