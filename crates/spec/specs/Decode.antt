-- A job's bytes as its parts. A record's size follows from its own counts, so a list of records is read one after the other.
-- The readers are total: what they give means something only where check 3 passes (`shaped`). Definitions only.
use Rattle.std.specs.Prelude.{ℕ, ◌+◌, ◌*◌, Bool, List, [], ◌∷◌, take, drop, length, leb, eqb, Float}
use Rattle.spec.specs.Bytes.{be, signed, float, rows, sizes, all_records}
use Rattle.spec.specs.Lists.{every}
use Rattle.spec.specs.Job.{Font, Glyph, Shift, Span, SpanParts, Chunk, Job, limits}

-- ---- rows of a fixed size

abbrev pub font_bytes : ℕ
font_bytes = 18

unfoldable pub font_of : List ℕ → Font
font_of bs =
    record {
      units = be 2 bs;
      ascent = signed 2 (drop 2 bs);
      descent = signed 2 (drop 4 bs);
      xheight = be 2 (drop 6 bs);
      underline = signed 2 (drop 8 bs);
      thickness = be 2 (drop 10 bs);
      through = signed 2 (drop 12 bs);
      subscript = signed 2 (drop 14 bs);
      superscript = signed 2 (drop 16 bs);
    }

abbrev pub glyph_bytes : ℕ
glyph_bytes = 25

unfoldable pub glyph_of : List ℕ → Glyph
glyph_of bs =
    record {
      id = be 4 bs;
      index = be 2 (drop 4 bs);
      length = be 1 (drop 6 bs);
      dx = signed 4 (drop 7 bs);
      dy = signed 4 (drop 11 bs);
      width = signed 4 (drop 15 bs);
      font = be 1 (drop 19 bs);
      tag = be 4 (drop 20 bs);
      orientation = be 1 (drop 24 bs);
    }

abbrev pub shift_bytes : ℕ
shift_bytes = 5

unfoldable pub shift_of : List ℕ → Shift
shift_of bs = record { kind = be 1 bs; number = float (drop 1 bs) }

abbrev pub float_size : ℕ
float_size = 4

-- ---- a span: 26 bytes, the shift count and shifts, the glyph count and glyphs

unfoldable pub span_of : List ℕ → Span
span_of bs =
    record {
      start = be 2 bs;
      end = be 2 (drop 2 bs);
      font = be 1 (drop 4 bs);
      size = float (drop 5 bs);
      letter = float (drop 9 bs);
      word = float (drop 13 bs);
      fixed = be 1 (drop 17 bs);
      length = float (drop 18 bs);
      adjust = be 1 (drop 22 bs);
      dominant = be 1 (drop 23 bs);
      alignment = be 1 (drop 24 bs);
      decorations = be 1 (drop 25 bs);
    }

unfoldable pub shift_count : List ℕ → ℕ
shift_count bs = be 1 (drop 26 bs)

-- where the glyph count stands
unfoldable pub glyph_count_at : List ℕ → ℕ
glyph_count_at bs = 27 + shift_count bs * shift_bytes

unfoldable pub glyph_count : List ℕ → ℕ
glyph_count bs = be 2 (drop (glyph_count_at bs) bs)

unfoldable pub span_size : List ℕ → ℕ
span_size bs = glyph_count_at bs + 2 + glyph_count bs * glyph_bytes

unfoldable pub span_fits : List ℕ → Bool
span_fits bs = every (leb (shift_count bs) limits.shifts ∷ leb (glyph_count bs) limits.glyphs ∷ leb (span_size bs) (length bs) ∷ [])

unfoldable pub parts_of : List ℕ → SpanParts
parts_of bs =
    record {
      span = span_of bs;
      shifts = rows (λ r. shift_bytes) shift_of (shift_count bs) (drop 27 bs);
      glyphs = rows (λ r. glyph_bytes) glyph_of (glyph_count bs) (drop (glyph_count_at bs + 2) bs);
    }

-- ---- a chunk: 11 bytes, the text length and text, the span count and spans

-- where the text length stands
abbrev pub text_length_at : ℕ
text_length_at = 11

unfoldable pub text_size : List ℕ → ℕ
text_size bs = be 2 (drop text_length_at bs)

-- where the span count stands
unfoldable pub span_count_at : List ℕ → ℕ
span_count_at bs = text_length_at + 2 + text_size bs

unfoldable pub span_count : List ℕ → ℕ
span_count bs = be 1 (drop (span_count_at bs) bs)

-- the bytes from the first span on
unfoldable pub span_bytes : List ℕ → List ℕ
span_bytes bs = drop (span_count_at bs + 1) bs

unfoldable pub chunk_size : List ℕ → ℕ
chunk_size bs = span_count_at bs + 1 + sizes span_size (span_count bs) (span_bytes bs)

unfoldable pub chunk_fits : List ℕ → Bool
chunk_fits bs =
    every
    (leb (text_size bs) limits.text
    ∷ leb (span_count bs) limits.spans
    ∷ leb (span_count_at bs + 1) (length bs)
    ∷ all_records span_size span_fits (span_count bs) (span_bytes bs)
    ∷ [])

unfoldable pub chunk_of : List ℕ → Chunk
chunk_of bs =
    record {
      flags = be 1 bs;
      x = float (drop 1 bs);
      y = float (drop 5 bs);
      anchor = be 1 (drop 9 bs);
      flow = be 1 (drop 10 bs);
      text = take (text_size bs) (drop (text_length_at + 2) bs);
      parts = rows span_size parts_of (span_count bs) (span_bytes bs);
    }

-- ---- a list: a 2-byte count and floats

unfoldable pub list_size : List ℕ → ℕ
list_size bs = 2 + be 2 bs * float_size

unfoldable pub list_fits : List ℕ → Bool
list_fits bs = every (leb (be 2 bs) limits.list ∷ leb (list_size bs) (length bs) ∷ [])

unfoldable pub list_of : List ℕ → List Float
list_of bs = rows (λ r. float_size) float (be 2 bs) (drop 2 bs)

-- ---- the whole job, given the bytes after the version: writing mode, font count, fonts, three lists, chunk count, chunks

unfoldable pub font_count : List ℕ → ℕ
font_count bs = be 1 (drop 1 bs)

-- where the three lists and the chunk count stand
unfoldable pub dx_at : List ℕ → ℕ
dx_at bs = 2 + font_count bs * font_bytes

unfoldable pub dy_at : List ℕ → ℕ
dy_at bs = dx_at bs + list_size (drop (dx_at bs) bs)

unfoldable pub rotate_at : List ℕ → ℕ
rotate_at bs = dy_at bs + list_size (drop (dy_at bs) bs)

unfoldable pub chunk_count_at : List ℕ → ℕ
chunk_count_at bs = rotate_at bs + list_size (drop (rotate_at bs) bs)

-- how many bytes the chunk count has
abbrev pub chunk_count_bytes : ℕ
chunk_count_bytes = 1

unfoldable pub chunk_count : List ℕ → ℕ
chunk_count bs = be chunk_count_bytes (drop (chunk_count_at bs) bs)

-- the bytes from the first chunk on
unfoldable pub chunk_bytes : List ℕ → List ℕ
chunk_bytes bs = drop (chunk_count_at bs + chunk_count_bytes) bs

-- every count is within its limit, and the counted fields end with the record
unfoldable pub shaped : List ℕ → Bool
shaped bs =
    every
    (leb (font_count bs) limits.fonts
    ∷ list_fits (drop (dx_at bs) bs)
    ∷ list_fits (drop (dy_at bs) bs)
    ∷ list_fits (drop (rotate_at bs) bs)
    ∷ leb (chunk_count bs) limits.chunks
    ∷ all_records chunk_size chunk_fits (chunk_count bs) (chunk_bytes bs)
    ∷ eqb (chunk_count_at bs + chunk_count_bytes + sizes chunk_size (chunk_count bs) (chunk_bytes bs)) (length bs)
    ∷ [])

unfoldable pub job_of : List ℕ → Job
job_of bs =
    record {
      mode = be 1 bs;
      fonts = rows (λ r. font_bytes) font_of (font_count bs) (drop 2 bs);
      dx = list_of (drop (dx_at bs) bs);
      dy = list_of (drop (dy_at bs) bs);
      rotate = list_of (drop (rotate_at bs) bs);
      chunks = rows chunk_size chunk_of (chunk_count bs) (chunk_bytes bs);
    }
