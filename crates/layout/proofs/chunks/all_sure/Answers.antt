use Prim.Native.Nat.{ℕ, ◌+◌, ◌-◌}
use mathlib.Core.Bool.{not}
use mathlib.Core.Path.{◌≡◌, refl, ap, ◌∙◌}
use native.Mathlib.Omega.{arith}
use Rattle.spec_laws.proofs.Tests.{failed, passed}
use Rattle.spec.specs.Lists.{all}
use Rattle.spec.specs.Decode.{chunk_size}
use Rattle.chunk.specs.Sure.{sure}
use Rattle.layout.proofs.ChunksLeft.{chunks_left}
use Rattle.layout.proofs.Straight.{asked-chunk, asked-no, asked-on, asked-all}
use Rattle.layout.proofs.chunks.all_sure.Goals as goal

pub overflow_add-at : goal.overflow_add-at
overflow_add-at c = let k = c.args.checked.passed in omega (arith, k.begins, k.size)

pub loop-init : goal.loop-init
loop-init c =
    let k = c.args.checked.passed in
    let all : c.count_of-end.result - 0 ≡ c.count_of-end.result = omega arith in
    record { begins = k.begins; fits = rw (all, c.count_of-end.ensures.0) k.fits; same = rw all refl }

pub is_sure-requires : goal.is_sure-requires
is_sure-requires c = asked-chunk _ c.loop.invariant (omega arith) _ c.args.checked.passed

pub returns-then-not-is_sure : goal.returns-then-not-is_sure
returns-then-not-is_sure c =
    let a = c.args.checked in
    let none = asked-no _ c.loop.invariant (omega arith) (failed c.is_sure.ensures (ap not c.if-not-is_sure.true)) in
    none ∙ ap (all sure) (ap (λ (n : ℕ). chunks_left a.bytes.now (a.job.chunks + 1) n) c.count_of-end.ensures.0)

pub loop-preserved : goal.loop-preserved
loop-preserved c =
    let l = c.loop in
    let k = c.chunk_size in
    let less : c.count_of-end.result - (l.counter + 1) ≡ c.count_of-end.result - l.counter - 1 = omega arith in
    rw less
    (asked-on _ l.invariant (omega arith) (passed c.is_sure.ensures (ap not c.if-not-is_sure.false)) k.result c.offset_after-at.result
    (k.ensures.0 ∙ ap chunk_size c.tail.ensures) c.offset_after-at.ensures)

pub returns : goal.returns
returns c =
    let a = c.args.checked in
    asked-all _ c.loop.invariant (omega arith)
    ∙ ap (all sure) (ap (λ (n : ℕ). chunks_left a.bytes.now (a.job.chunks + 1) n) c.count_of-end.ensures.0)
