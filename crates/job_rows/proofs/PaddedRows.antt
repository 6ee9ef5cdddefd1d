-- A row with 0 for each byte that is missing is read as the row without. Assumes nothing.
use Prim.Native.Nat.{ℕ, ◌≤◌}
use mathlib.Core.Path.{◌≡◌}
use mathlib.Core.List.{List}
use native.Mathlib.Omega.{arith}
use Rattle.spec.specs.Decode.{font_bytes, font_of, glyph_bytes, glyph_of, span_of}
use Rattle.wire.specs.Padded.{padded_of}
use Rattle.wire.proofs.Padded.{be-padded, signed-padded, float-padded}

module _ (n : ℕ) (bs : List ℕ) where
  pub font-padded : font_bytes ≤ n → font_of (padded_of n bs) ≡ font_of bs
  unfolding font_of
  font-padded h = λ i. record {
    units = be-padded n bs 2 0 (omega arith) i;
    ascent = signed-padded n bs 2 2 (omega arith) i;
    descent = signed-padded n bs 2 4 (omega arith) i;
    xheight = be-padded n bs 2 6 (omega arith) i;
    underline = signed-padded n bs 2 8 (omega arith) i;
    thickness = be-padded n bs 2 10 (omega arith) i;
    through = signed-padded n bs 2 12 (omega arith) i;
    subscript = signed-padded n bs 2 14 (omega arith) i;
    superscript = signed-padded n bs 2 16 (omega arith) i;
  }

  pub glyph-padded : glyph_bytes ≤ n → glyph_of (padded_of n bs) ≡ glyph_of bs
  unfolding glyph_of
  glyph-padded h = λ i. record {
    id = be-padded n bs 4 0 (omega arith) i;
    index = be-padded n bs 2 4 (omega arith) i;
    length = be-padded n bs 1 6 (omega arith) i;
    dx = signed-padded n bs 4 7 (omega arith) i;
    dy = signed-padded n bs 4 11 (omega arith) i;
    width = signed-padded n bs 4 15 (omega arith) i;
    font = be-padded n bs 1 19 (omega arith) i;
    tag = be-padded n bs 4 20 (omega arith) i;
    orientation = be-padded n bs 1 24 (omega arith) i;
  }

  pub span-padded : 26 ≤ n → span_of (padded_of n bs) ≡ span_of bs
  unfolding span_of
  span-padded h = λ i. record {
    start = be-padded n bs 2 0 (omega arith) i;
    end = be-padded n bs 2 2 (omega arith) i;
    font = be-padded n bs 1 4 (omega arith) i;
    size = float-padded n bs 5 (omega arith) i;
    letter = float-padded n bs 9 (omega arith) i;
    word = float-padded n bs 13 (omega arith) i;
    fixed = be-padded n bs 1 17 (omega arith) i;
    length = float-padded n bs 18 (omega arith) i;
    adjust = be-padded n bs 1 22 (omega arith) i;
    dominant = be-padded n bs 1 23 (omega arith) i;
    alignment = be-padded n bs 1 24 (omega arith) i;
    decorations = be-padded n bs 1 25 (omega arith) i;
  }
