use Prim.Native.Nat.{◌+◌, ◌-◌}
use mathlib.Core.Path.{◌≡◌, refl, ap, ◌∙◌}
use native.Mathlib.Omega.{arith}
use Rattle.std.proofs.Common.{Err, rules}
use Rattle.spec.specs.Decode.{chunk_size}
use Rattle.layout.proofs.ChunksLeft.{begun-laying, chunk-checked, refused-laying, after-laying, laying-done}
use Rattle.layout.proofs.chunks.layout_chunks.Goals as goal

pub loop-init : goal.loop-init
loop-init c =
    let all : c.count_of-end.result - 0 ≡ c.count_of-end.result = omega arith in
    rw all (begun-laying c.args.checked.passed refl c.count_of-end.ensures.0 c.beginning-before.ensures c.args.out.now)

pub layout_chunk-requires : goal.layout_chunk-requires
layout_chunk-requires c =
    let l = c.loop in
    chunk-checked _ _ l.before l.at _ (omega arith) l.invariant.known c.args.checked.passed

pub returns-in_err-before : goal.returns-in_err-before
returns-in_err-before c =
    let l = c.loop in
    let is = refused-laying _ _ l.before l.at _ (omega arith) c.layout_chunk.ensures c.in_err-before.field-0.0 c.in_err-before.was l.invariant in
    let same : c.from_residual.result ≡ Err c.in_err-before.field-0.0 = search rules in
    rw same (rw c.in_err-before.was at is.0, λ e. absurd (is.1 e))

pub loop-preserved : goal.loop-preserved
loop-preserved c =
    let l = c.loop in
    let laid = c.layout_chunk in
    let k = c.chunk_size-size in
    let size_is = k.ensures.0 ∙ ap chunk_size c.tail.ensures in
    let less : c.count_of-end.result - (l.counter + 1) ≡ c.count_of-end.result - l.counter - 1 = omega arith in
    rw less
    (after-laying _ _ l.before l.at _ (omega arith) laid.ensures c.in_ok-before.before c.in_ok-before.was k.result c.offset_after-at.result size_is
    c.offset_after-at.ensures laid.auto.out l.invariant)

pub returns : goal.returns
returns c =
    let l = c.loop in
    laying-done _ _ l.before l.at _ (omega arith) l.invariant
