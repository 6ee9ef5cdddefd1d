-- Document 01's traps, and other places where a slip is easy: each a job, and what is seen of its layout, computed from the job's bytes.
-- (P2 is the trap of text length, P8 those of −0.) Assumes nothing.
use Prim.Native.Nat.{ℕ}
use mathlib.Core.Path.{◌≡◌, refl}
use mathlib.Core.Bool.{true, false}
use mathlib.Core.List.{List, [], ◌∷◌, map, flat_map}
use Rattle.spec.specs.Outcome.{Outcome, refused, given}
use Rattle.spec.specs.Bytes.{bytes}
use Rattle.spec.specs.Script.{script_supports_letter_spacing, is_word_separator_at}
use Rattle.spec.specs.Script.Tag.{tag}
use Rattle.spec.specs.Decoration.{Run}
use Rattle.spec.specs.Answer.{GlyphRow, ClusterRow, SpanRow, ChunkRow}
use Rattle.spec.specs.Layout.{layout_rows}
use Rattle.spec.specs.Transform.{Step, span_steps, steps_of, path_steps, glyph_steps}
use Rattle.spec.proofs.Compute.{computed}
use Rattle.spec.proofs.Seen.{bits, whole, below, -0, shown}
use Rattle.spec.proofs.Jobs.{Variant, font_row, full_font, glyph_row, wide_row, letter_row, full_span, font_span, span_row, plain_span, placed_chunk, chunk_row, lists_job, job_row, plain_job, label_job, plain_variant, length_variant, built}

-- ---- what is seen of a layout

laid_out : Outcome (List ChunkRow) → List ChunkRow
laid_out (refused n) = []
laid_out (given cs) = cs

chunks_in : {A : Type 0} → (ChunkRow → A) → List ℕ → List A
unfolding laid_out
chunks_in f job = map f (laid_out (layout_rows job))

clusters_in : {A : Type 0} → (ClusterRow → A) → List ℕ → List A
unfolding laid_out
clusters_in f job = map f (flat_map (λ (c : ChunkRow). c.clusters) (laid_out (layout_rows job)))

spans_in : {A : Type 0} → (SpanRow → A) → List ℕ → List A
unfolding laid_out
spans_in f job = map f (flat_map (λ (c : ChunkRow). c.spans) (laid_out (layout_rows job)))

-- a cluster's glyph ids, flags, width, advance and shift x
ids_of : ClusterRow → List ℕ
ids_of c = map (λ (g : GlyphRow). g.id) c.glyphs

line_of : ClusterRow → List ℕ
line_of c = c.flags ∷ bits c.width ∷ bits c.advance ∷ bits c.x ∷ []

glyph_offset : GlyphRow → ℕ × ℕ
glyph_offset g = (bits g.x, bits g.y)

offsets_of : ClusterRow → List (ℕ × ℕ)
unfolding glyph_offset
offsets_of c = map glyph_offset c.glyphs

-- its flags, width, advance and length spacing
length_line : ClusterRow → List ℕ
length_line c = c.flags ∷ bits c.width ∷ bits c.advance ∷ bits c.spacing ∷ []

scale_of : ClusterRow → ℕ × ℕ
scale_of c = (c.flags, bits c.scale)

angle_of : ClusterRow → ℕ × ℕ
angle_of c = (c.flags, bits c.angle)

pen_of : ChunkRow → ℕ × ℕ
pen_of c = (bits c.pen_x, bits c.pen_y)

-- a cluster row in document 01's order, without its glyphs
row_of : ClusterRow → List ℕ
row_of c =
    c.index ∷ c.flags ∷ bits c.width ∷ bits c.advance ∷ bits c.spacing ∷ bits c.ascent ∷ bits c.descent ∷ bits c.nudge ∷ bits c.scale
    ∷ bits c.x ∷ bits c.y ∷ bits c.angle ∷ []

-- a span row likewise, without its runs, and the runs
span_of : SpanRow → List ℕ
span_of s =
    s.index ∷ bits s.x ∷ bits s.y ∷ bits s.baseline ∷ bits s.thickness ∷ bits s.under ∷ bits s.over ∷ bits s.through ∷ []

runs_of : SpanRow → List (ℕ × ℕ)
runs_of s = map (λ (r : Run). (r.first, bits r.width)) s.runs

origin_of : SpanRow → ℕ × ℕ
origin_of s = (bits s.x, bits s.y)

unfoldable seen : Unit {0}
unfolding laid_out chunks_in clusters_in spans_in ids_of line_of length_line offsets_of scale_of angle_of pen_of row_of span_of runs_of origin_of shown
seen = tt

-- ---- jobs

-- the text "ABCD", anchored at its start, with some spans
abcd : List (List ℕ) → List ℕ
abcd spans = plain_job [] [] (chunk_row 0 (65 ∷ 66 ∷ 67 ∷ 68 ∷ []) spans ∷ [])

-- one list merged into another: the first span has no text, the second has it all
merge : List (List ℕ) → List (List ℕ) → List ℕ
unfolding abcd
merge first second = abcd (plain_span 0 0 first ∷ plain_span 0 4 second ∷ [])

-- ---- step 1

-- a glyph of cluster length 3 replaces one of length 2: two glyphs go, and not one
removal : clusters_in ids_of (merge (letter_row 1 0 2 ∷ letter_row 2 1 1 ∷ letter_row 3 2 1 ∷ letter_row 4 3 1 ∷ []) (letter_row 5 0 3 ∷ []))
    ≡ (5 ∷ []) ∷ (4 ∷ []) ∷ []
unfolding computed built seen merge
removal = refl

-- one of length 2 replaces one of length 4: three glyphs follow it, and not two
insertion : clusters_in ids_of (merge (letter_row 1 0 4 ∷ []) (letter_row 5 0 2 ∷ letter_row 6 1 1 ∷ letter_row 7 2 1 ∷ letter_row 8 3 1 ∷ []))
    ≡ (5 ∷ []) ∷ (6 ∷ []) ∷ (7 ∷ []) ∷ (8 ∷ []) ∷ []
unfolding computed built seen merge
insertion = refl

-- a place that was replaced is not replaced again, though the byte index stands further on too
once : clusters_in ids_of (merge (letter_row 1 0 1 ∷ letter_row 2 0 1 ∷ []) (letter_row 5 0 1 ∷ letter_row 6 0 1 ∷ [])) ≡ (5 ∷ 2 ∷ []) ∷ []
unfolding computed built seen merge
once = refl

-- a glyph of a later span that lies outside this span replaces nothing
outside : clusters_in ids_of (abcd (plain_span 0 2 (letter_row 1 0 1 ∷ letter_row 2 1 1 ∷ []) ∷ plain_span 2 4 (letter_row 5 0 1 ∷ []) ∷ [])) ≡ (1 ∷ []) ∷ (2 ∷ []) ∷ []
unfolding computed built seen abcd
outside = refl

-- but those that follow a shorter one are inserted unfiltered: 6 and 7 lie outside the span of 5
unfiltered : clusters_in ids_of (abcd (plain_span 0 0 (letter_row 1 0 3 ∷ []) ∷ plain_span 0 1 (letter_row 5 0 1 ∷ letter_row 6 1 1 ∷ letter_row 7 2 1 ∷ []) ∷ plain_span 1 4 [] ∷ []))
    ≡ (5 ∷ []) ∷ (6 ∷ []) ∷ (7 ∷ []) ∷ []
unfolding computed built seen abcd
unfiltered = refl

-- remembered places are not moved: 5 takes place 1 and is removed with 6 at place 0, so place 1, where index 0 stands by then, is skipped
remembered : clusters_in ids_of (merge (letter_row 1 2 1 ∷ letter_row 2 1 1 ∷ letter_row 3 0 1 ∷ letter_row 4 3 1 ∷ []) (letter_row 5 1 1 ∷ letter_row 6 2 2 ∷ letter_row 7 0 1 ∷ []))
    ≡ (6 ∷ []) ∷ (3 ∷ []) ∷ (4 ∷ []) ∷ []
unfolding computed built seen merge
remembered = refl

-- ---- step 2

-- two glyphs of one byte index: the width is the largest, the advance the sum
two_glyphs : List ℕ
unfolding abcd
two_glyphs = abcd (plain_span 0 4 (glyph_row 1 0 1 3 0 1280 (tag "Latn") 0 ∷ glyph_row 2 0 1 0xfffffffc 5 512 (tag "Latn") 0 ∷ []) ∷ [])

largest : clusters_in line_of two_glyphs ≡ (0 ∷ whole 10 ∷ whole 14 ∷ 0 ∷ []) ∷ []
unfolding computed built seen two_glyphs
largest = refl

-- dy 0 gives +0, since the whole number is negated; x is the earlier widths plus dx
offsets : clusters_in offsets_of two_glyphs
    ≡ ((whole 3, 0) ∷ (whole 1276, below 5) ∷ []) ∷ []
unfolding computed built seen two_glyphs
offsets = refl

-- a glyph that no span covers is left out; a cluster's size is that of the first span that covers it, whose list it stands in or not
covering : clusters_in line_of (abcd (plain_span 0 1 (letter_row 1 0 1 ∷ letter_row 2 1 1 ∷ letter_row 3 3 1 ∷ []) ∷ full_span 0 1 3 0x42000000 0 0 0 0 0 0 0 0 [] [] ∷ []))
    ≡ (0 ∷ 0x41200000 ∷ 0x41200000 ∷ 0 ∷ []) ∷ (0 ∷ 0x41a00000 ∷ 0x41a00000 ∷ 0x41200000 ∷ []) ∷ []
unfolding computed built seen abcd
covering = refl

-- font units are multiplied by the rounded quotient of size and units per em: the quotient of the product would be 0x419e5604
quotients : clusters_in line_of (job_row 0 ((3 ∷ 232 ∷ 6 ∷ 0 ∷ 254 ∷ 0 ∷ 4 ∷ 0 ∷ 255 ∷ 0 ∷ 0 ∷ 128 ∷ 0 ∷ 0 ∷ 0 ∷ 0 ∷ 2 ∷ 128 ∷ []) ∷ []) [] [] (chunk_row 0 (65 ∷ []) (plain_span 0 1 (wide_row 1 0 1 1237 ∷ []) ∷ []) ∷ []))
    ≡ (0 ∷ 0x419e5605 ∷ 0x419e5605 ∷ 0 ∷ []) ∷ []
unfolding computed built seen
quotients = refl

-- ---- steps 4 and 5

-- the seventeen tags, and four others
tags : map script_supports_letter_spacing
    (0x41726162 ∷ 0x53797263 ∷ 0x4e6b6f6f ∷ 0x4d616e69 ∷ 0x50686c70 ∷ 0x4d616e64 ∷ 0x4d6f6e67 ∷ 0x50686167 ∷ 0x44657661 ∷ 0x42656e67
    ∷ 0x47757275 ∷ 0x4d6f6469 ∷ 0x53687264 ∷ 0x53796c6f ∷ 0x54697268 ∷ 0x4f67616d ∷ 0x526f6867
    ∷ tag "Latn" ∷ tag "arab" ∷ tag "rohg" ∷ tag "ROHG" ∷ [])
    ≡ false ∷ false ∷ false ∷ false ∷ false ∷ false ∷ false ∷ false ∷ false ∷ false ∷ false ∷ false ∷ false ∷ false ∷ false ∷ false ∷ false
    ∷ true ∷ true ∷ true ∷ true ∷ []
unfolding computed
tags = refl

-- the word separators in UTF-8, and three that are none: U+2003, U+3000, U+1091E
separators : map (λ (text : List ℕ). is_word_separator_at text 0)
    ((0x20 ∷ []) ∷ (0xc2 ∷ 0xa0 ∷ []) ∷ (0xe1 ∷ 0x8d ∷ 0xa1 ∷ []) ∷ (0xf0 ∷ 0x90 ∷ 0x84 ∷ 0x80 ∷ []) ∷ (0xf0 ∷ 0x90 ∷ 0x84 ∷ 0x81 ∷ [])
    ∷ (0xf0 ∷ 0x90 ∷ 0x8e ∷ 0x9f ∷ []) ∷ (0xf0 ∷ 0x90 ∷ 0xa4 ∷ 0x9f ∷ []) ∷ (0xe2 ∷ 0x80 ∷ 0x83 ∷ []) ∷ (0xe3 ∷ 0x80 ∷ 0x80 ∷ [])
    ∷ (0xf0 ∷ 0x90 ∷ 0xa4 ∷ 0x9e ∷ []) ∷ [])
    ≡ true ∷ true ∷ true ∷ true ∷ true ∷ true ∷ true ∷ false ∷ false ∷ false ∷ []
unfolding computed
separators = refl

-- the last cluster gets no spacing and still collapses; so does one whose own span has none, where another span's is not zero
collapsing : clusters_in line_of
    (abcd (span_row 0 1 (whole 1) 0 0 0 0 [] (letter_row 1 0 1 ∷ wide_row 2 1 1 0 ∷ letter_row 3 2 1 ∷ wide_row 4 3 1 0 ∷ []) ∷ plain_span 1 4 [] ∷ []))
    ≡ (0 ∷ whole 10 ∷ whole 11 ∷ 0 ∷ []) ∷ (32 ∷ 0 ∷ 0 ∷ whole 11 ∷ []) ∷ (0 ∷ whole 10 ∷ whole 10 ∷ whole 11 ∷ [])
    ∷ (32 ∷ 0 ∷ 0 ∷ whole 21 ∷ []) ∷ []
unfolding computed built seen abcd
collapsing = refl

-- document 02's Rohg: no letter spacing is added, and none takes a cluster's room. Another tag has both
joined : map (λ (v : Variant). clusters_in line_of (label_job v))
    (plain_variant (tag "Rohg") (whole 1) ∷ plain_variant (tag "Rohg") (below 11) ∷ plain_variant (tag "Rohh") (whole 1) ∷ plain_variant (tag "Rohh") (below 11) ∷ [])
    ≡ ((0 ∷ whole 10 ∷ whole 10 ∷ below 26 ∷ []) ∷ (0 ∷ whole 4 ∷ whole 6 ∷ below 16 ∷ []) ∷ (0 ∷ whole 10 ∷ whole 10 ∷ below 10 ∷ []) ∷ [])
    ∷ ((0 ∷ whole 10 ∷ whole 10 ∷ below 26 ∷ []) ∷ (0 ∷ whole 4 ∷ whole 6 ∷ below 16 ∷ []) ∷ (0 ∷ whole 10 ∷ whole 10 ∷ below 10 ∷ []) ∷ [])
    ∷ ((0 ∷ whole 10 ∷ whole 11 ∷ below 28 ∷ []) ∷ (0 ∷ whole 4 ∷ whole 7 ∷ below 17 ∷ []) ∷ (0 ∷ whole 10 ∷ whole 10 ∷ below 10 ∷ []) ∷ [])
    ∷ ((32 ∷ 0 ∷ 0 ∷ below 12 ∷ []) ∷ (32 ∷ 0 ∷ whole 2 ∷ below 12 ∷ []) ∷ (0 ∷ whole 10 ∷ whole 10 ∷ below 10 ∷ []) ∷ [])
    ∷ []
unfolding computed built seen
joined = refl

-- nor does a Rohg cluster collapse that has no width of its own
widthless : map (λ (script : ℕ). clusters_in line_of (abcd (span_row 0 4 (below 1) 0 0 0 0 [] (glyph_row 1 0 1 0 0 0 script 0 ∷ letter_row 2 1 1 ∷ []) ∷ [])))
    (tag "Rohg" ∷ tag "Rohh" ∷ [])
    ≡ ((0 ∷ 0 ∷ 0 ∷ 0 ∷ []) ∷ (0 ∷ whole 10 ∷ whole 10 ∷ 0 ∷ []) ∷ [])
    ∷ ((32 ∷ 0 ∷ 0 ∷ 0 ∷ []) ∷ (0 ∷ whole 10 ∷ whole 10 ∷ 0 ∷ []) ∷ [])
    ∷ []
unfolding computed built seen abcd
widthless = refl

-- ---- step 6

-- of three clusters with byte indexes 0, 1, 0 two take part: (54 − 20) ÷ 1 is added to their widths, and the third keeps its advance
first-of-index : clusters_in line_of (abcd (span_row 0 4 0 0 1 (whole 54) 0 [] (letter_row 1 0 1 ∷ letter_row 2 1 1 ∷ letter_row 3 0 1 ∷ []) ∷ []))
    ≡ (0 ∷ whole 10 ∷ whole 44 ∷ 0 ∷ []) ∷ (0 ∷ whole 10 ∷ whole 44 ∷ whole 44 ∷ []) ∷ (0 ∷ whole 10 ∷ whole 10 ∷ whole 88 ∷ []) ∷ []
unfolding computed built seen abcd
first-of-index = refl

-- document 02's adjust 2: the label's advances 11, 7, 10, letter and word spacing in them, brought to 54. With the flag clear it changes nothing
natural : map (λ (fixed : ℕ × ℕ). clusters_in length_line (label_job (length_variant fixed.0 fixed.1 2 []))) ((1, whole 54) ∷ (0, 0) ∷ [])
    ≡ ((0 ∷ whole 10 ∷ whole 24 ∷ whole 13 ∷ []) ∷ (0 ∷ whole 4 ∷ whole 20 ∷ whole 13 ∷ []) ∷ (0 ∷ whole 10 ∷ whole 23 ∷ whole 13 ∷ []) ∷ [])
    ∷ ((0 ∷ whole 10 ∷ whole 11 ∷ 0 ∷ []) ∷ (0 ∷ whole 4 ∷ whole 7 ∷ 0 ∷ []) ∷ (0 ∷ whole 10 ∷ whole 10 ∷ 0 ∷ []) ∷ [])
    ∷ []
unfolding computed built seen
natural = refl

-- a single cluster of two glyphs gets 0: by Spacing its advance becomes its width, by adjust 2 it stays
alone : map (λ (adjust : ℕ). clusters_in length_line (abcd (span_row 0 4 0 0 1 (whole 54) adjust [] (letter_row 1 0 1 ∷ wide_row 2 0 1 512 ∷ []) ∷ []))) (0 ∷ 2 ∷ [])
    ≡ ((0 ∷ whole 10 ∷ whole 10 ∷ 0 ∷ []) ∷ []) ∷ ((0 ∷ whole 10 ∷ whole 14 ∷ 0 ∷ []) ∷ []) ∷ []
unfolding computed built seen abcd
alone = refl

-- by adjust 2 too only the first of a byte index takes part: (54 − 22) ÷ 1 is added to the advances 11 and 11, and the third keeps its 10
natural-first : clusters_in length_line (abcd (span_row 0 4 (whole 1) 0 1 (whole 54) 2 [] (letter_row 1 0 1 ∷ letter_row 2 1 1 ∷ letter_row 3 0 1 ∷ []) ∷ []))
    ≡ (0 ∷ whole 10 ∷ whole 43 ∷ whole 32 ∷ []) ∷ (0 ∷ whole 10 ∷ whole 43 ∷ whole 32 ∷ []) ∷ (0 ∷ whole 10 ∷ whole 10 ∷ 0 ∷ []) ∷ []
unfolding computed built seen abcd
natural-first = refl

-- collapsed clusters take part. Their sum is +0, so that of the text length −0 each gets −0; and of 54 each gets 54
natural-collapsed : map (λ (target : ℕ). clusters_in length_line (abcd (span_row 0 2 (below 11) 0 1 target 2 [] (letter_row 1 0 1 ∷ letter_row 2 1 1 ∷ letter_row 3 2 1 ∷ []) ∷ plain_span 2 4 [] ∷ [])))
    (-0 ∷ whole 54 ∷ [])
    ≡ ((32 ∷ 0 ∷ 0 ∷ -0 ∷ []) ∷ (32 ∷ 0 ∷ 0 ∷ -0 ∷ []) ∷ (0 ∷ whole 10 ∷ whole 10 ∷ 0 ∷ []) ∷ [])
    ∷ ((32 ∷ 0 ∷ whole 54 ∷ whole 54 ∷ []) ∷ (32 ∷ 0 ∷ whole 54 ∷ whole 54 ∷ []) ∷ (0 ∷ whole 10 ∷ whole 10 ∷ 0 ∷ []) ∷ [])
    ∷ []
unfolding computed built seen abcd
natural-collapsed = refl

-- a width of 1 scaled by its text length: 0.001 counts, the float below it does not, nor does −1
factors : map (λ (target : ℕ). clusters_in scale_of (abcd (span_row 0 4 0 0 1 target 1 [] (wide_row 1 0 1 128 ∷ []) ∷ [])))
    (0x3a83126f ∷ 0x3a83126e ∷ below 1 ∷ [])
    ≡ ((8, 0x3a83126f) ∷ []) ∷ ((0, 0) ∷ []) ∷ ((0, 0) ∷ []) ∷ []
unfolding computed built seen abcd
factors = refl

-- ---- step 7

-- x is (first shift − left) + anchor, in that order: here the other order gives −10.0078125 instead of −10
anchoring : clusters_in (λ (c : ClusterRow). bits c.x)
    (plain_job (0x49800000 ∷ 0xc9800000 ∷ []) [] (chunk_row 2 (65 ∷ 66 ∷ []) (plain_span 0 2 (wide_row 1 0 1 1281 ∷ letter_row 2 1 1 ∷ []) ∷ []) ∷ []))
    ≡ 0x497fff60 ∷ 0x3c000000 ∷ []
unfolding computed built seen
anchoring = refl

-- right to left, shifts accumulate in text order: C and B take B's 3, A none
right-to-left : clusters_in line_of
    (plain_job (0 ∷ whole 3 ∷ []) [] (chunk_row 0 (65 ∷ 66 ∷ 67 ∷ []) (plain_span 0 3 (letter_row 3 2 1 ∷ letter_row 2 1 1 ∷ letter_row 1 0 1 ∷ []) ∷ []) ∷ []))
    ≡ (0 ∷ whole 10 ∷ whole 10 ∷ 0 ∷ []) ∷ (0 ∷ whole 10 ∷ whole 10 ∷ whole 10 ∷ []) ∷ (1 ∷ whole 10 ∷ whole 10 ∷ whole 17 ∷ []) ∷ []
unfolding computed built seen
right-to-left = refl

-- a shift down alone is a relative shift too, and it stays for what follows, the pen included
down : List ℕ
down =
    lists_job 0 (font_row ∷ []) [] (0 ∷ whole 3 ∷ []) [] (chunk_row 0 (65 ∷ 66 ∷ 67 ∷ []) (plain_span 0 3 (letter_row 1 0 1 ∷ letter_row 2 1 1 ∷ letter_row 3 2 1 ∷ []) ∷ []) ∷ [])

downwards : clusters_in {A = ℕ × ℕ} (λ (c : ClusterRow). (c.flags, bits c.y)) down ≡ (0, 0) ∷ (1, whole 3) ∷ (0, whole 3) ∷ []
unfolding computed built seen down
downwards = refl

down-pen : chunks_in pen_of down ≡ (whole 130, whole 53) ∷ []
unfolding computed built seen down
down-pen = refl

-- of clusters with one byte index the first in the list comes first in text order, and each takes the index's dx: 3, then 6, and B 6 too
equal-indexes : clusters_in line_of
    (plain_job (whole 3 ∷ []) [] (chunk_row 0 (65 ∷ 66 ∷ []) (plain_span 0 2 (letter_row 1 0 1 ∷ letter_row 2 1 1 ∷ letter_row 3 0 1 ∷ []) ∷ []) ∷ []))
    ≡ (0 ∷ whole 10 ∷ whole 10 ∷ whole 3 ∷ []) ∷ (1 ∷ whole 10 ∷ whole 10 ∷ whole 16 ∷ []) ∷ (0 ∷ whole 10 ∷ whole 10 ∷ whole 26 ∷ []) ∷ []
unfolding computed built seen
equal-indexes = refl

-- a rotated cluster is marked, also the first; −0 is no rotation
rotation : clusters_in angle_of
    (plain_job [] (whole 90 ∷ -0 ∷ []) (chunk_row 0 (65 ∷ 66 ∷ []) (plain_span 0 2 (letter_row 1 0 1 ∷ letter_row 2 1 1 ∷ []) ∷ []) ∷ []))
    ≡ (17, whole 90) ∷ (0, 0) ∷ []
unfolding computed built seen
rotation = refl

-- ---- step 8

-- baseline shifts are summed from the last: 2 ^ -4 twice, then 2 ^ 20. From the first, the small ones would be lost
baselines : spans_in (λ (s : SpanRow). bits s.baseline)
    (abcd (span_row 0 4 0 0 0 0 0 ((3 ∷ bytes 4 0x49800000) ∷ (3 ∷ bytes 4 0x3d800000) ∷ (3 ∷ bytes 4 0x3d800000) ∷ []) (letter_row 1 0 1 ∷ []) ∷ []))
    ≡ 0xc9800001 ∷ []
unfolding computed built seen abcd
baselines = refl

-- one letter in a span with a font in which no two numbers are equal: mode, size, baselines, decorations, shifts
letter_in : ℕ → ℕ → ℕ → ℕ → List (List ℕ) → List ℕ
letter_in mode dominant alignment decorations shifts =
    job_row mode (full_font ∷ []) [] [] (chunk_row 0 (65 ∷ []) (full_span 0 0 1 0x41800000 0 0 0 0 0 dominant alignment decorations shifts (letter_row 1 0 1 ∷ []) ∷ []) ∷ [])

baseline_of : List ℕ → List ℕ
baseline_of job = spans_in (λ (s : SpanRow). bits s.baseline) job

-- a subscript is taken away before the sum is negated, a superscript and a number are added
sub-and-super : map (λ (shift : List ℕ). baseline_of (letter_in 0 0 0 0 (shift ∷ []))) ((0 ∷ bytes 4 0) ∷ (1 ∷ bytes 4 0) ∷ (2 ∷ bytes 4 0) ∷ (3 ∷ bytes 4 (whole 7)) ∷ [])
    ≡ (0 ∷ []) ∷ (whole 2 ∷ []) ∷ (below 5 ∷ []) ∷ (below 7 ∷ []) ∷ []
unfolding computed built seen letter_in baseline_of
sub-and-super = refl

-- each alignment baseline; Auto and Baseline hand over to the dominant one, here Central
alignments : map (λ (k : ℕ). baseline_of (letter_in 0 8 k 0 [])) (0 ∷ 1 ∷ 2 ∷ 3 ∷ 4 ∷ 5 ∷ 6 ∷ 7 ∷ 8 ∷ 9 ∷ 10 ∷ 11 ∷ [])
    ≡ (whole 4 ∷ []) ∷ (whole 4 ∷ []) ∷ (whole 12 ∷ []) ∷ (whole 12 ∷ []) ∷ (whole 5 ∷ []) ∷ (whole 4 ∷ []) ∷ (below 4 ∷ []) ∷ (below 4 ∷ [])
    ∷ (below 4 ∷ []) ∷ (0 ∷ []) ∷ (0x4119999a ∷ []) ∷ (whole 6 ∷ []) ∷ []
unfolding computed built seen letter_in baseline_of
alignments = refl

-- each dominant baseline
dominants : map (λ (k : ℕ). baseline_of (letter_in 0 k 0 0 [])) (0 ∷ 1 ∷ 2 ∷ 3 ∷ 4 ∷ 5 ∷ 6 ∷ 7 ∷ 8 ∷ 9 ∷ 10 ∷ 11 ∷ [])
    ≡ (0 ∷ []) ∷ (0 ∷ []) ∷ (0 ∷ []) ∷ (0 ∷ []) ∷ (below 4 ∷ []) ∷ (0 ∷ []) ∷ (0x4119999a ∷ []) ∷ (whole 6 ∷ [])
    ∷ (whole 4 ∷ []) ∷ (whole 5 ∷ []) ∷ (below 4 ∷ []) ∷ (whole 12 ∷ []) ∷ []
unfolding computed built seen letter_in baseline_of
dominants = refl

-- each decoration alone, none, and all, left to right; all of them top to bottom, where no baseline counts
decorations : map (spans_in span_of)
    (letter_in 0 0 0 0 [] ∷ letter_in 0 0 0 1 [] ∷ letter_in 0 0 0 2 [] ∷ letter_in 0 0 0 4 [] ∷ letter_in 0 0 0 7 [] ∷ letter_in 1 8 8 7 ((1 ∷ bytes 4 0) ∷ []) ∷ [])
    ≡ ((0 ∷ whole 100 ∷ whole 50 ∷ 0 ∷ whole 1 ∷ 0 ∷ 0 ∷ 0 ∷ []) ∷ [])
    ∷ ((0 ∷ whole 100 ∷ whole 50 ∷ 0 ∷ whole 1 ∷ whole 2 ∷ 0 ∷ 0 ∷ []) ∷ [])
    ∷ ((0 ∷ whole 100 ∷ whole 50 ∷ 0 ∷ whole 1 ∷ 0 ∷ below 12 ∷ 0 ∷ []) ∷ [])
    ∷ ((0 ∷ whole 100 ∷ whole 50 ∷ 0 ∷ whole 1 ∷ 0 ∷ 0 ∷ below 4 ∷ []) ∷ [])
    ∷ ((0 ∷ whole 100 ∷ whole 50 ∷ 0 ∷ whole 1 ∷ whole 2 ∷ below 12 ∷ below 4 ∷ []) ∷ [])
    ∷ ((0 ∷ whole 100 ∷ whole 50 ∷ whole 2 ∷ whole 1 ∷ whole 8 ∷ below 8 ∷ 0 ∷ []) ∷ [])
    ∷ []
unfolding computed built seen letter_in
decorations = refl

-- a span without a font has no row, but counts. A cluster outside the span ends its run, and one with a relative shift begins another
five_letters : List ℕ
five_letters =
    plain_job [] (0 ∷ 0 ∷ whole 90 ∷ [])
    (chunk_row 0 (65 ∷ 66 ∷ 67 ∷ 68 ∷ []) (font_span 255 0 0 0 0 0 0 0 [] [] ∷ plain_span 0 3 (letter_row 1 0 1 ∷ letter_row 2 1 1 ∷ letter_row 3 2 1 ∷ letter_row 4 3 1 ∷ letter_row 5 0 1 ∷ []) ∷ plain_span 3 4 [] ∷ []) ∷ [])

span-indexes : spans_in (λ (s : SpanRow). s.index) five_letters ≡ 1 ∷ 2 ∷ []
unfolding computed built seen five_letters
span-indexes = refl

runs : spans_in runs_of five_letters ≡ ((0, whole 20) ∷ (2, whole 10) ∷ (4, whole 10) ∷ []) ∷ ((3, whole 10) ∷ []) ∷ []
unfolding computed built seen five_letters
runs = refl

-- ---- a whole row

-- two letters top to bottom, the second upright and rotated: letter spacing 1, text length 54 by Spacing, dx 3 for both and dy 5 for the second
upright : List ℕ
upright =
    lists_job 1 (full_font ∷ []) (whole 3 ∷ []) (0 ∷ whole 5 ∷ []) (0 ∷ whole 90 ∷ [])
    (chunk_row 0 (65 ∷ 66 ∷ []) (span_row 0 2 (whole 1) 0 1 (whole 54) 0 [] (glyph_row 1 0 1 0 0 1280 (tag "Latn") 0 ∷ glyph_row 2 1 1 0 0 1280 (tag "Latn") 1 ∷ []) ∷ []) ∷ [])

upright-rows : clusters_in row_of upright
    ≡ (0 ∷ 4 ∷ whole 10 ∷ whole 44 ∷ whole 34 ∷ whole 12 ∷ below 4 ∷ whole 4 ∷ 0 ∷ 0 ∷ below 3 ∷ 0 ∷ [])
    ∷ (1 ∷ 19 ∷ whole 10 ∷ whole 44 ∷ whole 34 ∷ whole 5 ∷ below 5 ∷ whole 4 ∷ 0 ∷ whole 49 ∷ below 3 ∷ whole 90 ∷ [])
    ∷ []
unfolding computed built seen upright
upright-rows = refl

upright-pen : chunks_in pen_of upright ≡ (whole 97, whole 143) ∷ []
unfolding computed built seen upright
upright-pen = refl

-- ---- what a host does with rows

-- steps as their names' numbers and floats
step_of : Step → List ℕ
step_of (Step.translate x y) = 0 ∷ bits x ∷ bits y ∷ []
step_of (Step.scale x y) = 1 ∷ bits x ∷ bits y ∷ []
step_of (Step.rotate a) = 2 ∷ bits a ∷ []
step_of (Step.rotate_about a x y) = 3 ∷ bits a ∷ bits x ∷ bits y ∷ []

-- the two letters above: one lies on its side, the other stands upright and is rotated. Their span is turned about its origin
upright-steps : map (λ (steps : ClusterRow → List Step). clusters_in (λ (c : ClusterRow). map step_of (steps c)) upright) (steps_of ∷ path_steps ∷ glyph_steps ∷ [])
    ≡ (((0 ∷ 0 ∷ whole 4 ∷ []) ∷ (0 ∷ 0 ∷ below 3 ∷ []) ∷ []) ∷ ((0 ∷ whole 49 ∷ below 3 ∷ []) ∷ (2 ∷ whole 90 ∷ []) ∷ []) ∷ [])
    ∷ ([] ∷ ((0 ∷ 0 ∷ whole 4 ∷ []) ∷ (3 ∷ below 90 ∷ whole 5 ∷ below 4 ∷ []) ∷ []) ∷ [])
    ∷ (((0 ∷ 0 ∷ whole 4 ∷ []) ∷ (0 ∷ 0 ∷ below 3 ∷ []) ∷ []) ∷ ((0 ∷ whole 49 ∷ below 3 ∷ []) ∷ (2 ∷ whole 90 ∷ []) ∷ (0 ∷ 0 ∷ whole 4 ∷ []) ∷ (3 ∷ below 90 ∷ whole 5 ∷ below 4 ∷ []) ∷ []) ∷ [])
    ∷ []
unfolding computed built seen upright step_of
upright-steps = refl

-- a stretched cluster; and a span, by its writing mode
stretched-steps : clusters_in (λ (c : ClusterRow). map step_of (glyph_steps c)) (abcd (span_row 0 4 0 0 1 (whole 20) 1 [] (letter_row 1 0 1 ∷ []) ∷ []))
    ≡ ((1 ∷ whole 2 ∷ whole 1 ∷ []) ∷ (0 ∷ 0 ∷ 0 ∷ []) ∷ []) ∷ []
unfolding computed built seen abcd step_of
stretched-steps = refl

span-steps : map (λ (mode : ℕ). spans_in (λ (s : SpanRow). map step_of (span_steps mode s)) (letter_in mode 0 0 0 ((1 ∷ bytes 4 0) ∷ []))) (0 ∷ 1 ∷ [])
    ≡ (((0 ∷ whole 100 ∷ whole 50 ∷ []) ∷ (0 ∷ 0 ∷ whole 2 ∷ []) ∷ []) ∷ [])
    ∷ (((3 ∷ whole 90 ∷ whole 100 ∷ whole 50 ∷ []) ∷ (0 ∷ whole 100 ∷ whole 50 ∷ []) ∷ (0 ∷ 0 ∷ whole 2 ∷ []) ∷ []) ∷ [])
    ∷ []
unfolding computed built seen letter_in step_of
span-steps = refl

-- ---- pen and origin

-- where a flag is clear the origin comes from the pen, which stands at (110, 50) behind the first letter: flags 0, x alone, y alone, both
origins : map (λ (chunk : List ℕ). spans_in origin_of (plain_job [] [] (chunk_row 0 (65 ∷ []) (plain_span 0 1 (letter_row 1 0 1 ∷ []) ∷ []) ∷ chunk ∷ [])))
    (placed_chunk 0 0 0 0 (66 ∷ []) (plain_span 0 1 (letter_row 2 0 1 ∷ []) ∷ []) ∷ placed_chunk 1 (whole 7) 0 0 (66 ∷ []) (plain_span 0 1 (letter_row 2 0 1 ∷ []) ∷ [])
    ∷ placed_chunk 2 0 (whole 8) 0 (66 ∷ []) (plain_span 0 1 (letter_row 2 0 1 ∷ []) ∷ []) ∷ placed_chunk 3 (whole 7) (whole 8) 0 (66 ∷ []) (plain_span 0 1 (letter_row 2 0 1 ∷ []) ∷ []) ∷ [])
    ≡ ((whole 100, whole 50) ∷ (whole 110, whole 50) ∷ []) ∷ ((whole 100, whole 50) ∷ (whole 7, whole 50) ∷ [])
    ∷ ((whole 100, whole 50) ∷ (whole 110, whole 8) ∷ []) ∷ ((whole 100, whole 50) ∷ (whole 7, whole 8) ∷ []) ∷ []
unfolding computed built seen
origins = refl

-- the pen after two chunks at (100, 50) with one letter each: left to right, and swapped top to bottom, where 100 + −0 is 100
pens : map (λ (mode : ℕ). chunks_in pen_of (job_row mode (font_row ∷ []) [] [] (chunk_row 0 (65 ∷ []) (plain_span 0 1 (letter_row 1 0 1 ∷ []) ∷ []) ∷ chunk_row 0 (66 ∷ []) [] ∷ []))) (0 ∷ 1 ∷ [])
    ≡ ((whole 110, whole 50) ∷ (whole 110, whole 50) ∷ []) ∷ ((whole 100, whole 60) ∷ (whole 100, whole 60) ∷ []) ∷ []
unfolding computed built seen
pens = refl

-- characters are numbered over all chunks, an empty one's too: the third chunk's letter is the character of dx 3
numbering : clusters_in line_of
    (plain_job (0 ∷ 0 ∷ whole 3 ∷ []) []
    (chunk_row 0 (65 ∷ []) (plain_span 0 1 (letter_row 1 0 1 ∷ []) ∷ []) ∷ chunk_row 0 (66 ∷ []) [] ∷ chunk_row 0 (67 ∷ []) (plain_span 0 1 (letter_row 2 0 1 ∷ []) ∷ []) ∷ []))
    ≡ (0 ∷ whole 10 ∷ whole 10 ∷ 0 ∷ []) ∷ (0 ∷ whole 10 ∷ whole 10 ∷ whole 3 ∷ []) ∷ []
unfolding computed built seen
numbering = refl

-- and not bytes: "é" has two of them. B is character 1 of the first chunk, C the first of the second
numbering-characters : clusters_in line_of
    (plain_job (0 ∷ whole 3 ∷ whole 5 ∷ []) []
    (chunk_row 0 (0xc3 ∷ 0xa9 ∷ 66 ∷ []) (plain_span 0 3 (letter_row 1 0 2 ∷ letter_row 2 2 1 ∷ []) ∷ []) ∷ chunk_row 0 (67 ∷ []) (plain_span 0 1 (letter_row 3 0 1 ∷ []) ∷ []) ∷ []))
    ≡ (0 ∷ whole 10 ∷ whole 10 ∷ 0 ∷ []) ∷ (1 ∷ whole 10 ∷ whole 10 ∷ whole 13 ∷ []) ∷ (0 ∷ whole 10 ∷ whole 10 ∷ whole 5 ∷ []) ∷ []
unfolding computed built seen
numbering-characters = refl
