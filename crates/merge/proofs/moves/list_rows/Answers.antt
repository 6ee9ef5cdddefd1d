use native.Mathlib.Omega.{arith}
use Prim.Native.Nat.{◌+◌, ◌*◌}
use mathlib.Core.Path.{◌≡◌, sym, ◌∙◌}
use lib.ListN.{length, length-append, length-drop}
use lib.Seq.{length-take-le}
use Rattle.merge.proofs.Moved.{listed_start, listed-step, listed-end, glyphs-front}
use Rattle.merge.proofs.moves.list_rows.Goals as goal

pub loop-k-init : goal.loop-k-init
loop-k-init c = λ s. let e : c.args.own.first + 0 ≡ c.args.own.first = omega arith in rw e (listed_start s _ c.args.own.count c.args.own.first)

pub loop-k-preserved : goal.loop-k-preserved
loop-k-preserved c =
    let own = c.args.own in
    let l = c.loop-k in
    let n = length-take-le own.count c.args.rows.now c.requires in
    let row = own.first + l.k * 25 in
    let e : own.first + (l.k + 1) * 25 ≡ row + 25 = omega arith in
    λ s. rw (e, c.row.ensures) (listed-step s l.row-items own.count l.k row (omega arith) (omega arith) ∙ l.invariant s)

pub returns : goal.returns
returns c =
    let own = c.args.own in
    let l = c.loop-k in
    let n = length-take-le own.count c.args.rows.now c.requires in
    let e : l.k ≡ own.count = omega arith in
    let whole : length l.row-items ≡ own.count = omega arith in (
      simp (length-append, length-drop) (omega arith),
      λ s. glyphs-front s l.row-items _ own.count whole ∙ (rw e at (sym (listed-end s l.row-items own.count l.k (own.first + l.k * 25) (omega arith)) ∙ l.invariant s)),
    )
