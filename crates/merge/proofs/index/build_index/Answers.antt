use Prim.Native.Nat.{◌≤◌}
use mathlib.Core.Path.{◌≡◌}
use native.Mathlib.Omega.{arith}
use lib.ListN.{length, drop_of_length-le}
use Rattle.merge.specs.Merged.{glyphs_in}
use Rattle.merge.specs.Buckets.{buckets_from, buckets_of}
use Rattle.merge.proofs.Moved.{glyphs-count}
use Rattle.merge.proofs.Places.{bucket-put}
use Rattle.merge.proofs.index.build_index.Goals as goal

pub loop-i-init : goal.loop-i-init
unfolding buckets_from
loop-i-init c =
    let a = c.args in
    let gs = glyphs_in a.s.now a.rows.now a.count in
    let all : length gs ≤ a.count = omega (arith, glyphs-count a.s.now a.rows.now a.count c.requires.0) in
    rw (drop_of_length-le gs all)

pub loop-i-preserved : goal.loop-i-preserved
loop-i-preserved c =
    let put = c.set_bucket in
    let read = c.index_at in
    let a = c.args in
    let l = c.loop-i in
    rw (put.ensures, l.invariant) (bucket-put a.s.now a.rows.now a.count l.i read.result _ (omega arith) (omega arith) (omega arith) read.ensures)

pub returns : goal.returns
unfolding buckets_of
returns c =
    let a = c.args in
    let l = c.loop-i in
    let e : l.i ≡ 0 = omega arith in
    rw (glyphs-count a.s.now a.rows.now a.count c.requires.0) (rw (e, c.fill.ensures.after (λ y same. same)) at l.invariant)
