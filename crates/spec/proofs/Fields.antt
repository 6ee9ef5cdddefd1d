-- Every field of a job and of an answer, each with a value of its own, so that no two can be swapped: a job's parts from its bytes, an answer's bytes
-- from its rows, and its rows from them. Assumes nothing.
use Prim.Native.Nat.{ℕ}
use mathlib.Core.Path.{◌≡◌, refl}
use mathlib.Core.List.{List, [], ◌∷◌, ◌++◌, map}
use lib.IntN.{pos, neg_ℤ}
use lib.Ieee.{Float, binary32, of_bits}
use Rattle.spec.specs.Outcome.{Outcome, refused, given}
use Rattle.spec.specs.Bytes.{bytes}
use Rattle.spec.specs.Script.Tag.{tag}
use Rattle.spec.specs.Job.{Job, Chunk, Span, Glyph, Font}
use Rattle.spec.specs.Check.{checked}
use Rattle.spec.specs.Answer.{ChunkRow, answer_bytes, read_answer}
use Rattle.spec.specs.Layout.{number_of, length_of, buffer_after}
use Rattle.spec.proofs.Compute.{computed}

-- the float of a pattern
at : ℕ → Float
at b = of_bits binary32 b

-- ---- a job

job : List ℕ
job =
    bytes 4 139
    ++ (1 ∷ 1 ∷ 2 ∷ [])
    -- two fonts
    ++ bytes 2 1000 ++ bytes 2 800 ++ bytes 2 0xff38 ++ bytes 2 500 ++ bytes 2 0xff9c ++ bytes 2 50 ++ bytes 2 300 ++ bytes 2 75 ++ bytes 2 0xfe0c
    ++ bytes 2 1 ++ bytes 2 2 ++ bytes 2 3 ++ bytes 2 4 ++ bytes 2 5 ++ bytes 2 6 ++ bytes 2 7 ++ bytes 2 0x7fff ++ bytes 2 0x8000
    -- dx, dy, rotate
    ++ bytes 2 1 ++ bytes 4 0x3f800001
    ++ bytes 2 1 ++ bytes 4 0x3f800002
    ++ bytes 2 2 ++ bytes 4 0x3f800003 ++ bytes 4 0x3f800004
    -- a chunk
    ++ (1 ∷ [])
    ++ bytes 1 3 ++ bytes 4 0x3f800005 ++ bytes 4 0x3f800006 ++ bytes 1 2 ++ bytes 1 0 ++ bytes 2 4 ++ (65 ∷ 66 ∷ 67 ∷ 68 ∷ [])
    -- a span
    ++ (1 ∷ [])
    ++ bytes 2 1 ++ bytes 2 4 ++ bytes 1 0 ++ bytes 4 0x3f800007 ++ bytes 4 0x3f800008 ++ bytes 4 0x3f800009 ++ bytes 1 1 ++ bytes 4 0x3f80000a
    ++ bytes 1 2 ++ bytes 1 11 ++ bytes 1 10 ++ bytes 1 7
    -- a shift
    ++ bytes 1 1 ++ bytes 1 3 ++ bytes 4 0x3f80000b
    -- a glyph
    ++ bytes 2 1
    ++ bytes 4 0x01020304 ++ bytes 2 3 ++ bytes 1 63 ++ bytes 4 0xfffffffb ++ bytes 4 6 ++ bytes 4 0xfffffff8 ++ bytes 1 1 ++ bytes 4 (tag "Latn") ++ bytes 1 1

first_font : Font
first_font =
    record { units = 1000; ascent = pos 800; descent = neg_ℤ (pos 200); xheight = 500; underline = neg_ℤ (pos 100); thickness = 50; through = pos 300; subscript = pos 75; superscript = neg_ℤ (pos 500) }

second_font : Font
second_font =
    record { units = 1; ascent = pos 2; descent = pos 3; xheight = 4; underline = pos 5; thickness = 6; through = pos 7; subscript = pos 32767; superscript = neg_ℤ (pos 32768) }

glyph : Glyph
glyph =
    record { id = 0x01020304; index = 3; length = 63; dx = neg_ℤ (pos 5); dy = pos 6; width = neg_ℤ (pos 8); font = 1; tag = tag "Latn"; orientation = 1 }

span : Span
unfolding at
span =
    record { start = 1; end = 4; font = 0; size = at 0x3f800007; letter = at 0x3f800008; word = at 0x3f800009; fixed = 1; length = at 0x3f80000a; adjust = 2; dominant = 11; alignment = 10; decorations = 7 }

chunk : Chunk
unfolding at
chunk =
    record {
      flags = 3;
      x = at 0x3f800005;
      y = at 0x3f800006;
      anchor = 2;
      flow = 0;
      text = 65 ∷ 66 ∷ 67 ∷ 68 ∷ [];
      parts = record { span = span; shifts = record { kind = 3; number = at 0x3f80000b } ∷ []; glyphs = glyph ∷ [] } ∷ [];
    }

parts : Job
unfolding at
parts =
    record {
      mode = 1;
      fonts = first_font ∷ second_font ∷ [];
      dx = at 0x3f800001 ∷ [];
      dy = at 0x3f800002 ∷ [];
      rotate = at 0x3f800003 ∷ at 0x3f800004 ∷ [];
      chunks = chunk ∷ [];
    }

decoded : checked job ≡ given parts
unfolding computed job at first_font second_font glyph span chunk parts
decoded = refl

-- ---- an answer

rows : List ChunkRow
unfolding at
rows =
    record {
      pen_x = at 0x3f800001;
      pen_y = at 0x3f800002;
      clusters =
          record {
            index = 0x0304;
            flags = 53;
            width = at 0x3f800003;
            advance = at 0x3f800004;
            spacing = at 0x3f800005;
            ascent = at 0x3f800006;
            descent = at 0x3f800007;
            nudge = at 0x3f800008;
            scale = at 0x3f800009;
            x = at 0x3f80000a;
            y = at 0x3f80000b;
            angle = at 0x3f80000c;
            glyphs = record { id = 0x01020304; font = 5; x = at 0x3f80000d; y = at 0x3f80000e } ∷ [];
          } ∷ [];
      spans =
          record {
            index = 6;
            x = at 0x3f80000f;
            y = at 0x3f800010;
            baseline = at 0x3f800011;
            thickness = at 0x3f800012;
            under = at 0x3f800013;
            over = at 0x3f800014;
            through = at 0x3f800015;
            runs = record { first = 0x0708; width = at 0x3f800016 } ∷ record { first = 0x090a; width = at 0x3f800017 } ∷ [];
          } ∷ [];
    } ∷ []

answer : List ℕ
answer =
    bytes 4 114
    ++ (1 ∷ 1 ∷ [])
    -- the chunk
    ++ bytes 2 1 ++ bytes 1 1 ++ bytes 4 0x3f800001 ++ bytes 4 0x3f800002
    -- its cluster
    ++ bytes 2 0x0304 ++ bytes 1 53 ++ bytes 4 0x3f800003 ++ bytes 4 0x3f800004 ++ bytes 4 0x3f800005 ++ bytes 4 0x3f800006 ++ bytes 4 0x3f800007
    ++ bytes 4 0x3f800008 ++ bytes 4 0x3f800009 ++ bytes 4 0x3f80000a ++ bytes 4 0x3f80000b ++ bytes 4 0x3f80000c
    ++ bytes 2 1 ++ bytes 4 0x01020304 ++ bytes 1 5 ++ bytes 4 0x3f80000d ++ bytes 4 0x3f80000e
    -- its span
    ++ bytes 1 6 ++ bytes 4 0x3f80000f ++ bytes 4 0x3f800010 ++ bytes 4 0x3f800011 ++ bytes 4 0x3f800012 ++ bytes 4 0x3f800013 ++ bytes 4 0x3f800014 ++ bytes 4 0x3f800015
    ++ bytes 2 2 ++ bytes 2 0x0708 ++ bytes 4 0x3f800016 ++ bytes 2 0x090a ++ bytes 4 0x3f800017

encoded : answer_bytes rows ≡ answer
unfolding computed at rows answer
encoded = refl

-- read from an answer of which more bytes follow
read : read_answer (answer ++ (9 ∷ 9 ∷ 9 ∷ 9 ∷ [])) ≡ rows
unfolding computed at rows answer
read = refl

-- ---- a lent buffer

-- the answer, and then the old bytes past it; all the old bytes of a refusal
left : map (λ (o : Outcome (List ℕ)). buffer_after o (7 ∷ 8 ∷ 9 ∷ [])) (given (1 ∷ 2 ∷ []) ∷ given (1 ∷ 2 ∷ 3 ∷ []) ∷ refused 4 ∷ [])
    ≡ (1 ∷ 2 ∷ 9 ∷ []) ∷ (1 ∷ 2 ∷ 3 ∷ []) ∷ (7 ∷ 8 ∷ 9 ∷ []) ∷ []
left = refl

returned : map (λ (o : Outcome (List ℕ)). number_of o ∷ length_of o ∷ []) (given (1 ∷ 2 ∷ []) ∷ refused 4 ∷ []) ≡ (0 ∷ 2 ∷ []) ∷ (4 ∷ 0 ∷ []) ∷ []
returned = refl

-- an answer with no chunk
empty : answer_bytes [] ≡ 0 ∷ 0 ∷ 0 ∷ 2 ∷ 1 ∷ 0 ∷ []
unfolding computed
empty = refl
