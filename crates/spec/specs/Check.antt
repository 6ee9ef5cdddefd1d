-- Checks 1 to 6 of a job, in document 01's order: each covers the whole job before the next. Definitions only.
use Rattle.std.specs.Prelude.{ℕ, ◌-◌, Bool, true, not, cond, ◌&&◌, ◌||◌, List, [], ◌∷◌, get_or, drop, length, leb, ltb, eqb, ℤ, nat_abs, Float}
use Rattle.std.specs.Float.Ieee.{neg}
use Rattle.spec.specs.Outcome.{Outcome, given, and_then, Check, first_failing}
use Rattle.spec.specs.Lists.{all, every, is_empty}
use Rattle.spec.specs.Bytes.{be}
use Rattle.spec.specs.Single.{smallest, largest, smallest_size, largest_size, is_zero, between, is_zero_bits}
use Rattle.spec.specs.Job.{Font, Glyph, Shift, Span, SpanParts, Chunk, Job, limits, job_version, top_to_bottom, anchor_end, flow_linear, adjust_natural, no_font, has_x, has_y, has_length, spans_of}
use Rattle.spec.specs.Decode.{shaped, job_of}
use Rattle.spec.specs.Utf8.{is_utf8, starts_at}

-- ---- 1 and 2: the length field and the version

-- from 5 bytes to the limit, and the length field is the byte count less 4
unfoldable pub length_ok : List ℕ → Bool
length_ok bs = every (leb 5 (length bs) ∷ leb (length bs) limits.bytes ∷ eqb (be 4 bs) (length bs - 4) ∷ [])

unfoldable pub version_ok : List ℕ → Bool
version_ok bs = eqb (get_or bs 4 0) job_version

-- the bytes after the version
abbrev pub after_version : List ℕ → List ℕ
after_version bs = drop 5 bs

-- ---- 4: each field has one of its values

-- zero of either sign, or of a size from 2 ^ -20 to 2 ^ 20
unfoldable pub float_ok : Float → Bool
float_ok x = is_zero x || (between smallest largest x || between (neg largest) (neg smallest) x)

-- a value that is there by a flag, and four zero bytes where the flag is clear
unfoldable pub flagged_ok : Bool → Float → Bool
flagged_ok here x = cond here (float_ok x) (is_zero_bits x)

-- from 1/16 to 4,096
unfoldable pub size_ok : Float → Bool
size_ok x = between smallest_size largest_size x

-- within ±65,535
abbrev pub units_ok : ℤ → Bool
units_ok z = leb (nat_abs z) 65535

unfoldable pub font_ok : Font → Bool
font_ok f = every (ltb 0 f.units ∷ ltb 0 f.xheight ∷ ltb 0 f.thickness ∷ [])

-- `fonts` is the font count
unfoldable pub glyph_ok : ℕ → Glyph → Bool
glyph_ok fonts g =
    every
    (leb 1 g.length
    ∷ leb g.length 64
    ∷ units_ok g.dx
    ∷ units_ok g.dy
    ∷ units_ok g.width
    ∷ ltb g.font fonts
    ∷ leb g.orientation 1
    ∷ [])

unfoldable pub shift_ok : Shift → Bool
shift_ok s = every (leb s.kind 3 ∷ flagged_ok (eqb s.kind 3) s.number ∷ [])

unfoldable pub span_ok : ℕ → Span → Bool
span_ok fonts s =
    every
    ((ltb s.font fonts || eqb s.font no_font)
    ∷ size_ok s.size
    ∷ float_ok s.letter
    ∷ float_ok s.word
    ∷ leb s.fixed 1
    ∷ flagged_ok (has_length s) s.length
    ∷ leb s.adjust adjust_natural
    ∷ leb s.dominant 11
    ∷ leb s.alignment 11
    ∷ leb s.decorations 7
    ∷ [])

-- a span with no font has no glyphs
unfoldable pub parts_ok : ℕ → SpanParts → Bool
parts_ok fonts p =
    every
    (span_ok fonts p.span
    ∷ (not (eqb p.span.font no_font) || is_empty p.glyphs)
    ∷ all shift_ok p.shifts
    ∷ all (glyph_ok fonts) p.glyphs
    ∷ [])

unfoldable pub chunk_ok : ℕ → Chunk → Bool
chunk_ok fonts c =
    every
    (leb c.flags 3
    ∷ flagged_ok (has_x c) c.x
    ∷ flagged_ok (has_y c) c.y
    ∷ leb c.anchor anchor_end
    ∷ eqb c.flow flow_linear
    ∷ all (parts_ok fonts) c.parts
    ∷ [])

unfoldable pub values_ok : Job → Bool
values_ok j =
    every
    (leb j.mode top_to_bottom
    ∷ all font_ok j.fonts
    ∷ all float_ok j.dx
    ∷ all float_ok j.dy
    ∷ all float_ok j.rotate
    ∷ all (chunk_ok (length j.fonts)) j.chunks
    ∷ [])

-- ---- 5: the text is UTF-8, and each glyph's byte index is the start of a character

unfoldable pub text_ok : Chunk → Bool
text_ok c = is_utf8 c.text && all (λ (p : SpanParts). all (λ (g : Glyph). starts_at c.text g.index) p.glyphs) c.parts

-- ---- 6: the spans stand in order inside the text of n bytes, from byte `from` on

unfoldable pub ordered : ℕ → ℕ → List Span → Bool
ordered n from [] = true
ordered n from (s ∷ ss) = leb from s.start && leb s.start s.end && leb s.end n && ordered n s.end ss

unfoldable pub spans_ok : Chunk → Bool
spans_ok c = ordered (length c.text) 0 (spans_of c)

-- ---- in order

unfoldable pub checks : List (Check (List ℕ))
checks =
    record { number = 1; passes = length_ok } ∷ record { number = 2; passes = version_ok }
    ∷ record { number = 3; passes = λ bs. shaped (after_version bs) }
    ∷ record { number = 4; passes = λ bs. values_ok (job_of (after_version bs)) }
    ∷ record { number = 5; passes = λ bs. all text_ok (job_of (after_version bs)).chunks }
    ∷ record { number = 6; passes = λ bs. all spans_ok (job_of (after_version bs)).chunks }
    ∷ []

-- the job that the bytes hold, or the refusal that its own fields earn
unfoldable pub checked : List ℕ → Outcome Job
checked bs = and_then (first_failing checks bs) (λ (passed : Unit {0}). given (job_of (after_version bs)))
