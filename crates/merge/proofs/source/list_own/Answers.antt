-- `merge::source::list_own` meets its contract. Assumes nothing.
use mathlib.Core.Path.{refl, sym, ap, ◌∙◌}
use native.Mathlib.Omega.{arith}
use lib.ListN.{length}
use Rattle.job_rows.specs.Rows.{glyphs_at, glyphs_in}
use Rattle.merge.proofs.Alone.{own-here, own-past}
use Rattle.merge.proofs.source.list_own.Goals as goal

pub list_span-requires : goal.list_span-requires
list_span-requires c =
    let own = own-here c.args.s.now c.args.spans.now c.args.k (omega arith) in
    (c.requires.0, rw (← own) c.requires.1, rw (← own) c.requires.2)

pub returns-then-k-spans : goal.returns-then-k-spans
returns-then-k-spans c =
    let own = own-here c.args.s.now c.args.spans.now c.args.k (omega arith) in
    let listed = c.list_span.ensures in
    (listed.0, listed.1 ∙ ap length (sym own), listed.2 ∙ sym own)

pub returns : goal.returns
unfolding glyphs_in glyphs_at
returns c =
    let none = own-past c.args.s.now c.args.spans.now c.args.k (omega arith) in
    (refl, rw none refl, rw none refl)
