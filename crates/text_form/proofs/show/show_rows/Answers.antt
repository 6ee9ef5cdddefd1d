use Rattle.std.proofs.Common.{◌∙◌, drop}
use Rattle.text_form.proofs.Behind.{behind-on, behind-none, behind-all}
use Rattle.text_form.proofs.show.show_rows.Goals as goal

pub loop-i-init : goal.loop-i-init
loop-i-init g c = behind-all g.R.Rows.size_of _ _

pub loop-i-preserved : goal.loop-i-preserved
loop-i-preserved g c =
    let l = c.loop-i in
    behind-on g.R.Rows.size_of _ l.i c.args.bytes.now c.tail.result.now l.at c.show-size.result c.offset_after-at.result c.tail.ensures c.show-size.ensures c.offset_after-at.ensures
    c.loop-i-test.true ∙ l.invariant

pub returns : goal.returns
returns g c =
    let l = c.loop-i in
    behind-none g.R.Rows.size_of _ l.i (drop l.at c.args.bytes.now) c.loop-i-test.false ∙ l.invariant
