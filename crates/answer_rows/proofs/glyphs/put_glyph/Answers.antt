-- `answer_rows::glyphs::put_glyph` meets its contract. Assumes nothing.
use Prim.Native.Nat.{◌+◌}
use lib.IntN.{neg_ℤ}
use lib.Ieee.{binary32, of_int}
use mathlib.Core.Path.{◌≡◌}
use native.Mathlib.Omega.{arith}
use Rattle.std.proofs.Common.{rules}
use Rattle.spec.specs.Bytes.{bytes, float_bytes}
use Rattle.spec.specs.Answer.{glyph_row_bytes}
use Rattle.spec_laws.proofs.Numbers.{length-bytes, length-float_bytes}
use Rattle.spec_laws.proofs.AnswerLength.{length-glyph_row}
use Rattle.answer_rows.specs.Glyphs.{glyph_row}
use Rattle.answer_rows.proofs.Puts.{put_four}
use Rattle.answer_rows.proofs.glyphs.put_glyph.Goals as goal

pub returns : goal.returns
unfolding glyph_row_bytes
returns c =
    let a = c.args in
    let is_x : c.units.result ≡ of_int binary32 a.glyph.dx = search rules in
    let is_y : c.units_negated.result ≡ of_int binary32 (neg_ℤ a.glyph.dy) = search rules in
    let row = glyph_row a.x a.glyph in
    put_four a.out.now a.at (bytes 4 row.id) (bytes 1 row.font) (float_bytes row.x) (float_bytes row.y) {k₁ = a.at + 4} {k₂ = a.at + 5} {k₃ = a.at + 9} (omega (arith, length-glyph_row row))
    (omega (arith, length-bytes 4 row.id)) (omega (arith, length-bytes 1 row.font)) (omega (arith, length-float_bytes row.x))
    c.put_u32.ensures c.put_u8.ensures (rw is_x at c.put_f32.ensures) (rw is_y at c.put_f32-2.ensures)
