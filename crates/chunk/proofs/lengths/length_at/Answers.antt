-- `chunk::lengths::length_at` meets its contract. Assumes nothing.
use mathlib.Core.Path.{refl}
use Rattle.spec.specs.Decode.{span_of}
use Rattle.chunk.proofs.lengths.length_at.Goals as goal

pub returns-then-stretched : goal.returns-then-stretched
unfolding span_of
returns-then-stretched c =
    rw (c.if-stretched.true, c.u8_at.ensures, c.u8_at-fixed.ensures, c.tail-row.ensures) refl

pub returns : goal.returns
unfolding span_of
returns c = rw (c.if-stretched.false, c.u8_at-fixed.ensures, c.tail-row.ensures) refl
