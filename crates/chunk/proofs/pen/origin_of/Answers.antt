-- `chunk::pen::origin_of` meets its contract. Assumes nothing.
use mathlib.Core.Path.{refl}
use Rattle.spec.specs.Decode.{chunk_of}
use Rattle.chunk.proofs.pen.origin_of.Goals as goal

pub returns : goal.returns
unfolding chunk_of
returns c =
    let flags = c.u8_at-flags in
    let chunk = c.tail-chunk in
    rw (c.own_or-2.ensures, c.own_or.ensures, c.f32_at-2.ensures, c.f32_at.ensures, flags.ensures, chunk.ensures) refl
