-- Jobs as bytes, for the tables: document 01's label with what its variants change, and the rows that other jobs are made of.
use Prim.Native.Nat.{ℕ}
use mathlib.Core.List.{List, [], ◌∷◌, ◌++◌, flat_map}
use lib.ListN.{length}
use Rattle.spec.specs.Bytes.{bytes}
use Rattle.spec.specs.Script.Tag.{tag}

-- ---- rows; floats are given by their patterns

-- 2048 units, ascent 1536, descent −512, x-height 1024, underline −256, thickness 128, superscript 640, the others 0
unfoldable pub font_row : List ℕ
font_row = 8 ∷ 0 ∷ 6 ∷ 0 ∷ 254 ∷ 0 ∷ 4 ∷ 0 ∷ 255 ∷ 0 ∷ 0 ∷ 128 ∷ 0 ∷ 0 ∷ 0 ∷ 0 ∷ 2 ∷ 128 ∷ []

-- the same with x-height 1280, line-through 512 and subscript 256, so that no two of its numbers are equal
unfoldable pub full_font : List ℕ
full_font = 8 ∷ 0 ∷ 6 ∷ 0 ∷ 254 ∷ 0 ∷ 5 ∷ 0 ∷ 255 ∷ 0 ∷ 0 ∷ 128 ∷ 2 ∷ 0 ∷ 1 ∷ 0 ∷ 2 ∷ 128 ∷ []

-- a glyph of font 0: id, byte index, cluster length, dx, dy, width, tag, orientation
unfoldable pub glyph_row : ℕ → ℕ → ℕ → ℕ → ℕ → ℕ → ℕ → ℕ → List ℕ
glyph_row id index long dx dy width script orientation =
    bytes 4 id ++ bytes 2 index ++ bytes 1 long ++ bytes 4 dx ++ bytes 4 dy ++ bytes 4 width ++ bytes 1 0 ++ bytes 4 script ++ bytes 1 orientation

-- a Latin letter of some width with no offset, and one of 1280 units
unfoldable pub wide_row : ℕ → ℕ → ℕ → ℕ → List ℕ
wide_row id index long width = glyph_row id index long 0 0 width (tag "Latn") 0

unfoldable pub letter_row : ℕ → ℕ → ℕ → List ℕ
letter_row id index long = wide_row id index long 1280

unfoldable pub float_list : List ℕ → List ℕ
float_list xs = bytes 2 (length xs) ++ flat_map (bytes 4) xs

-- a span: font, start, end, size, letter and word spacing, text length (flag, target, adjust), dominant and alignment baseline, decorations,
-- shifts, glyphs
unfoldable pub full_span : ℕ → ℕ → ℕ → ℕ → ℕ → ℕ → ℕ → ℕ → ℕ → ℕ → ℕ → ℕ → List (List ℕ) → List (List ℕ) → List ℕ
full_span font from to size letter word fixed target adjust dominant alignment decorations shifts glyphs =
    bytes 2 from ++ bytes 2 to ++ bytes 1 font ++ bytes 4 size ++ bytes 4 letter ++ bytes 4 word ++ bytes 1 fixed ++ bytes 4 target
    ++ bytes 1 adjust ++ bytes 1 dominant ++ bytes 1 alignment ++ bytes 1 decorations ++ bytes 1 (length shifts) ++ flat_map (λ (s : List ℕ). s) shifts
    ++ bytes 2 (length glyphs) ++ flat_map (λ (g : List ℕ). g) glyphs

-- of size 16, with no baseline and no decoration
unfoldable pub font_span : ℕ → ℕ → ℕ → ℕ → ℕ → ℕ → ℕ → ℕ → List (List ℕ) → List (List ℕ) → List ℕ
font_span font from to letter word fixed target adjust shifts glyphs =
    full_span font from to 0x41800000 letter word fixed target adjust 0 0 0 shifts glyphs

-- with font 0
unfoldable pub span_row : ℕ → ℕ → ℕ → ℕ → ℕ → ℕ → ℕ → List (List ℕ) → List (List ℕ) → List ℕ
span_row from to letter word fixed target adjust shifts glyphs = font_span 0 from to letter word fixed target adjust shifts glyphs

-- with no spacing, no text length and no shift
unfoldable pub plain_span : ℕ → ℕ → List (List ℕ) → List ℕ
plain_span from to glyphs = span_row from to 0 0 0 0 0 [] glyphs

-- a chunk: flags, x, y, anchor, text, spans
unfoldable pub placed_chunk : ℕ → ℕ → ℕ → ℕ → List ℕ → List (List ℕ) → List ℕ
placed_chunk flags x y anchor text spans =
    bytes 1 flags ++ bytes 4 x ++ bytes 4 y ++ bytes 1 anchor ++ bytes 1 0 ++ bytes 2 (length text) ++ text
    ++ bytes 1 (length spans)
    ++ flat_map (λ (s : List ℕ). s) spans

-- at (100, 50)
unfoldable pub chunk_row : ℕ → List ℕ → List (List ℕ) → List ℕ
chunk_row anchor text spans = placed_chunk 3 0x42c80000 0x42480000 anchor text spans

-- a record: its length field, and what follows
unfoldable pub record_row : List ℕ → List ℕ
record_row body = bytes 4 (length body) ++ body

-- a job: writing mode, font rows, dx, dy and rotate lists, chunks
unfoldable pub lists_job : ℕ → List (List ℕ) → List ℕ → List ℕ → List ℕ → List (List ℕ) → List ℕ
lists_job mode fonts dx dy rotate chunks =
    record_row
    (bytes 1 1 ++ bytes 1 mode ++ bytes 1 (length fonts) ++ flat_map (λ (f : List ℕ). f) fonts ++ float_list dx ++ float_list dy ++ float_list rotate
    ++ bytes 1 (length chunks) ++ flat_map (λ (c : List ℕ). c) chunks)

-- with no dy
unfoldable pub job_row : ℕ → List (List ℕ) → List ℕ → List ℕ → List (List ℕ) → List ℕ
job_row mode fonts dx rotate chunks = lists_job mode fonts dx [] rotate chunks

-- left to right, with the label's font
unfoldable pub plain_job : List ℕ → List ℕ → List (List ℕ) → List ℕ
plain_job dx rotate chunks = job_row 0 (font_row ∷ []) dx rotate chunks

-- ---- the label

-- what a variant may change: writing mode, A's orientation, script tag, letter spacing, text length (flag, value, adjust), alignment baseline,
-- shifts (their kinds) and dx list
pub record Variant : Type 0 where
  pub mode : ℕ
  pub upright : ℕ
  pub script : ℕ
  pub letter : ℕ
  pub fixed : ℕ
  pub target : ℕ
  pub adjust : ℕ
  pub alignment : ℕ
  pub shifts : List ℕ
  pub dx : List ℕ

-- size 16, word spacing 2, underline, widths 1280, 512, 1280
unfoldable pub label_span : Variant → List ℕ
label_span v =
    bytes 2 0 ++ bytes 2 3 ++ bytes 1 0 ++ bytes 4 0x41800000 ++ bytes 4 v.letter ++ bytes 4 0x40000000 ++ bytes 1 v.fixed
    ++ bytes 4 v.target
    ++ bytes 1 v.adjust
    ++ bytes 1 0
    ++ bytes 1 v.alignment
    ++ bytes 1 1
    ++ bytes 1 (length v.shifts)
    ++ flat_map (λ (k : ℕ). bytes 1 k ++ bytes 4 0) v.shifts
    ++ bytes 2 3
    ++ glyph_row 0 0 1 0 0 1280 v.script v.upright
    ++ glyph_row 0 1 1 0 0 512 v.script 0
    ++ glyph_row 0 2 1 0 0 1280 v.script 0

-- text "A B", with some anchor
unfoldable pub label_at : ℕ → Variant → List ℕ
label_at anchor v = job_row v.mode (font_row ∷ []) v.dx [] (chunk_row anchor (65 ∷ 32 ∷ 66 ∷ []) (label_span v ∷ []) ∷ [])

-- the label's own: end
unfoldable pub label_job : Variant → List ℕ
label_job v = label_at 2 v

-- left to right, A sideways, no text length, no alignment, no shift, no dx: tag Latn and letter spacing 1 in the label itself
unfoldable pub plain_variant : ℕ → ℕ → Variant
plain_variant script letter =
    record { mode = 0; upright = 0; script = script; letter = letter; fixed = 0; target = 0; adjust = 0; alignment = 0; shifts = []; dx = [] }

-- the label with a text length (flag, value, adjust) and a dx list
unfoldable pub length_variant : ℕ → ℕ → ℕ → List ℕ → Variant
length_variant fixed target adjust dx =
    record { mode = 0; upright = 0; script = tag "Latn"; letter = 0x3f800000; fixed = fixed; target = target; adjust = adjust; alignment = 0; shifts = []; dx = dx }

-- ---- four letters of advance 10 brought to 50, anchored at their start: their exact offsets are thirds
unfoldable pub thirds : List ℕ
thirds =
    plain_job [] [] (chunk_row 0 (65 ∷ 66 ∷ 67 ∷ 68 ∷ []) (span_row 0 4 0 0 1 0x42480000 0 [] (letter_row 1 0 1 ∷ letter_row 2 1 1 ∷ letter_row 3 2 1 ∷ letter_row 4 3 1 ∷ []) ∷ []) ∷ [])

-- ---- ten such letters with letter spacing 1, in spans that ask for text lengths by each adjust value: four by 0 to 50, two by 1 to 30, four by 2 to 50
unfoldable pub mixed : List ℕ
mixed =
    plain_job [] [] (chunk_row 0 (65 ∷ 66 ∷ 67 ∷ 68 ∷ 69 ∷ 70 ∷ 71 ∷ 72 ∷ 73 ∷ 74 ∷ []) (
    span_row 0 4 0x3f800000 0 1 0x42480000 0 [] (letter_row 1 0 1 ∷ letter_row 2 1 1 ∷ letter_row 3 2 1 ∷ letter_row 4 3 1 ∷ letter_row 5 4 1 ∷ letter_row 6 5 1 ∷ letter_row 7 6 1 ∷ letter_row 8 7 1 ∷ letter_row 9 8 1 ∷ letter_row 10 9 1 ∷ [])
    ∷ span_row 4 6 0x3f800000 0 1 0x41f00000 1 [] []
    ∷ span_row 6 10 0x3f800000 0 1 0x42480000 2 [] []
    ∷ []
    ) ∷ [])

-- ---- opens all of these, for computed tests
unfoldable pub built : Unit {0}
unfolding font_row full_font glyph_row wide_row letter_row float_list full_span font_span span_row plain_span placed_chunk chunk_row record_row lists_job job_row plain_job label_span label_at label_job plain_variant length_variant thirds mixed
built = tt
