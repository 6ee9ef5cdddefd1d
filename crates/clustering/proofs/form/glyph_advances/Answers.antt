use Prim.Native.Nat.{◌+◌, ◌-◌}
use mathlib.Core.Path.{◌≡◌}
use native.Mathlib.Omega.{arith}
use lib.ListN.{drop, length-take, length-drop}
use Rattle.job_rows.specs.Rows.{fonts_in}
use Rattle.clustering.proofs.Glyphs.{width-next, read-part}
use Rattle.clustering.proofs.Sums.{left-all, left-next, left-none}
use Rattle.clustering.proofs.form.glyph_advances.Goals as goal

pub loop-at-init : goal.loop-at-init
loop-at-init c =
    let a = c.args in
    let given = c.requires in
    let all = left-all a.s.now a.merged.now (fonts_in a.s.now a.fonts) a.size a.from a.end given.0 in
    let none : a.from + 1 + 0 ≡ a.from + 1 = omega arith in
    rw none (left-next all given.0.some given.1 c.with_glyph-all.ensures)

pub glyph_advance-requires : goal.glyph_advance-requires
glyph_advance-requires c =
    let a = c.args in
    let l = c.loop-at in
    let read = read-part a.merged.now (a.from + 1) a.end l.at-index (omega arith) in
    rw read.1 (width-next a.s.now a.merged.now a.end (a.from + 1 + l.at-index) read.0 l.invariant.fit l.invariant.widths)

pub loop-at-preserved : goal.loop-at-preserved
loop-at-preserved c =
    let a = c.args in
    let l = c.loop-at in
    let read = read-part a.merged.now (a.from + 1) a.end l.at-index (omega arith) in
    let more : a.from + 1 + (l.at-index + 1) ≡ a.from + 1 + l.at-index + 1 = omega arith in
    rw more (left-next l.invariant read.0 (rw (← read.1) c.glyph_advance.ensures) c.with_glyph-all-in-loop-at.ensures)

pub returns : goal.returns
returns c =
    let a = c.args in
    let part = drop (a.from + 1) a.merged.now in
    left-none c.loop-at.invariant (omega (arith, length-take (a.end - (a.from + 1)) part, length-drop (a.from + 1) a.merged.now, c.requires.0.inside))
