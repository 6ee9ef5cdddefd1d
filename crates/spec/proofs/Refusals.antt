-- Refusals, as one table that is computed from the job's bytes: each number met by the smallest change of document 01's label, its float
-- edges, and jobs with two causes, of which the earlier check is told. Assumes nothing.
use Prim.Native.Nat.{ℕ, ◌*◌}
use mathlib.Core.Path.{◌≡◌, refl}
use mathlib.Core.List.{List, [], ◌∷◌, ◌++◌, map, flat_map, foldl}
use lib.ListN.{length, take, set, replicate}
use Rattle.spec.specs.Bytes.{bytes}
use Rattle.spec.specs.Script.Tag.{tag}
use Rattle.spec.specs.Layout.{layout_of, number_of}
use Rattle.spec.proofs.Compute.{computed}
use Rattle.spec.proofs.Jobs.{plain_variant, label_job, font_row, glyph_row, letter_row, font_span, span_row, plain_span, chunk_row, lists_job, job_row, plain_job, built}

-- ---- jobs

with_letter : ℕ → List ℕ
with_letter b = label_job (plain_variant (tag "Latn") b)

-- the label, whose answer is 228 bytes long, and the label with other bytes at some places
label : List ℕ
unfolding with_letter
label = with_letter 0x3f800000

changed : List (ℕ × ℕ) → List ℕ
unfolding label
changed edits = foldl (λ (bs : List ℕ) (e : ℕ × ℕ). set bs e.0 e.1) label edits

-- a job of chunks at the pen's start, and one with a chunk of some text and spans
job_of : List (List ℕ) → List ℕ
job_of chunks = plain_job [] [] chunks

text_job : List ℕ → List (List ℕ) → List ℕ
unfolding job_of
text_job text spans = job_of (chunk_row 0 text spans ∷ [])

-- one with a span that has a shift of some kind and number
shifted : ℕ → ℕ → List ℕ
unfolding text_job
shifted kind number = text_job [] (span_row 0 0 0 0 0 0 0 ((kind ∷ bytes 4 number) ∷ []) [] ∷ [])

-- a record of n + 4 bytes, all zero after its length field, which is right
blank : ℕ → List ℕ
blank n = bytes 4 n ++ replicate n 0

-- a chunk whose last glyph, of cluster length 1, is replaced by one of length 2
past_the_end : List ℕ
past_the_end =
    chunk_row 0 (65 ∷ 66 ∷ []) (plain_span 0 1 (letter_row 1 0 1 ∷ letter_row 2 1 1 ∷ []) ∷ plain_span 1 2 (letter_row 3 1 2 ∷ []) ∷ [])

-- a full list of 1,024 glyphs, into which a second one is inserted
full-list : List ℕ
full-list =
    chunk_row 0 (65 ∷ 66 ∷ []) (plain_span 0 1 (replicate 1024 (letter_row 1 1 2)) ∷ plain_span 1 2 (letter_row 2 1 1 ∷ letter_row 3 1 1 ∷ []) ∷ [])

-- a list of 1,023 glyphs, into which a second one is inserted
nearly-full : List ℕ
nearly-full =
    chunk_row 0 (65 ∷ 66 ∷ []) (plain_span 0 1 (replicate 1023 (letter_row 1 1 2)) ∷ plain_span 1 2 (letter_row 2 1 1 ∷ letter_row 3 1 1 ∷ []) ∷ [])

-- the label with text length 2, by some adjust value, and no width
no-width : ℕ → List (ℕ × ℕ)
no-width adjust = (66, 1) ∷ (67, 0x40) ∷ (71, adjust) ∷ (95, 0) ∷ (120, 0) ∷ (145, 0) ∷ []

-- "ABC", with A and B in some script: letter spacing −11 and SpacingAndGlyphs to 40, in a span of their own
squeezed : ℕ → List ℕ
unfolding text_job
squeezed script =
    text_job (65 ∷ 66 ∷ 67 ∷ [])
    (span_row 0 2 0xc1300000 0 1 0x42200000 1 [] (glyph_row 1 0 1 0 0 1280 script 0 ∷ glyph_row 2 1 1 0 0 1280 script 0 ∷ letter_row 3 2 1 ∷ [])
    ∷ plain_span 2 3 (letter_row 3 2 1 ∷ [])
    ∷ [])

-- ten letters at the two bytes of "AB" in turn, all rotated: each is a cluster and begins a run, so that 335 bytes are answered by 688
turned : List ℕ
turned =
    plain_job [] (0x41200000 ∷ 0x41a00000 ∷ [])
    (chunk_row 0 (65 ∷ 66 ∷ []) (plain_span 0 2 (flat_map (λ (i : ℕ). letter_row 1 0 1 ∷ letter_row 2 1 1 ∷ []) (replicate 5 0)) ∷ []) ∷ [])

-- ---- the table: a job, the bytes lent, and the number that it meets (0: accepted)

pub record Case : Type 0 where
  pub job : List ℕ
  pub lent : ℕ
  pub number : ℕ

numbers : List Case → List ℕ
numbers cases = map (λ (c : Case). number_of (layout_of c.job c.lent)) cases

told : List Case → List ℕ
told cases = map (λ (c : Case). c.number) cases

plain : List ℕ → ℕ → Case
plain job n = record { job = job; lent = 65536; number = n }

-- 1 and 2: under 5 bytes, over 65,536 (which itself passes), a length field that is off; another version
records : List Case
unfolding plain label changed blank
records =
    plain [] 1
    ∷ plain (bytes 4 0) 1
    ∷ plain (take 4 label) 1
    ∷ plain (take 152 label) 1
    ∷ plain (label ++ (0 ∷ [])) 1
    ∷ plain (blank 65533) 1
    ∷ plain (blank 65532) 2
    ∷ plain (changed ((4, 2) ∷ [])) 2
    ∷ plain (changed ((4, 0) ∷ [])) 2
    ∷ []

records-told : numbers records ≡ told records
unfolding computed built numbers told records
records-told = refl

-- 3: nothing after the version, and a byte too many. Each limit passes, and one more meets 3 (of a span's 1,024 glyphs see `later`)
counts : List Case
unfolding plain label changed text_job
counts =
    plain (bytes 4 1 ++ (1 ∷ [])) 3
    ∷ plain (changed ((3, 150) ∷ []) ++ (0 ∷ [])) 3
    ∷ plain (job_row 0 (replicate 16 font_row) [] [] []) 0
    ∷ plain (job_row 0 (replicate 17 font_row) [] [] []) 3
    ∷ plain (plain_job (replicate 4096 0) [] []) 0
    ∷ plain (plain_job (replicate 4097 0) [] []) 3
    ∷ plain (lists_job 0 (font_row ∷ []) [] (replicate 4096 0) [] []) 0
    ∷ plain (lists_job 0 (font_row ∷ []) [] (replicate 4097 0) [] []) 3
    ∷ plain (plain_job [] (replicate 4096 0) []) 0
    ∷ plain (plain_job [] (replicate 4097 0) []) 3
    ∷ plain (plain_job [] [] (replicate 16 (chunk_row 0 [] []))) 0
    ∷ plain (plain_job [] [] (replicate 17 (chunk_row 0 [] []))) 3
    ∷ plain (text_job (replicate 4096 65) []) 0
    ∷ plain (text_job (replicate 4097 65) []) 3
    ∷ plain (text_job [] (replicate 32 (plain_span 0 0 []))) 0
    ∷ plain (text_job [] (replicate 33 (plain_span 0 0 []))) 3
    ∷ plain (text_job [] (span_row 0 0 0 0 0 0 0 (replicate 8 (bytes 5 0)) [] ∷ [])) 0
    ∷ plain (text_job [] (span_row 0 0 0 0 0 0 0 (replicate 9 (bytes 5 0)) [] ∷ [])) 3
    ∷ plain (text_job (65 ∷ []) (plain_span 0 1 (replicate 1025 (letter_row 1 0 1)) ∷ [])) 3
    ∷ []

counts-told : numbers counts ≡ told counts
unfolding computed built numbers told counts
counts-told = refl

-- 4: writing mode 2 (1 passes); units per em, x-height and thickness 0; a number in dx, dy and rotate that is none; chunk flags 4, and x or y given with its flag clear; anchor 3
-- (1 passes); flow 1; span font 1; glyphs in a span without a font, which passes with none; word spacing that is no number; length flag 2; −0 with the length flag clear; adjust 3 (2
-- and 1 pass); baselines 12 (11 pass); decorations 8 (7 passes); a shift of kind 4, a number in one of kind 2 (in one of kind 3 it passes), one of kind 3 that is no number; cluster
-- lengths 0 and 65 (64 passes); dx, dy and width ±65,536 (±65,535 pass); glyph fonts 1 and 255; orientation 2 (1 passes)
values : List Case
unfolding plain label changed text_job shifted
values =
    plain (changed ((5, 2) ∷ [])) 4
    ∷ plain (changed ((5, 1) ∷ [])) 0
    ∷ plain (changed ((7, 0) ∷ [])) 4
    ∷ plain (changed ((13, 0) ∷ [])) 4
    ∷ plain (changed ((18, 0) ∷ [])) 4
    ∷ plain (plain_job (0x7fc00000 ∷ []) [] []) 4
    ∷ plain (lists_job 0 (font_row ∷ []) [] (0x7fc00000 ∷ []) [] []) 4
    ∷ plain (plain_job [] (0x7fc00000 ∷ []) []) 4
    ∷ plain (changed ((32, 4) ∷ [])) 4
    ∷ plain (changed ((32, 2) ∷ [])) 4
    ∷ plain (changed ((32, 1) ∷ [])) 4
    ∷ plain (changed ((41, 3) ∷ [])) 4
    ∷ plain (changed ((41, 1) ∷ [])) 0
    ∷ plain (changed ((42, 1) ∷ [])) 4
    ∷ plain (changed ((53, 1) ∷ [])) 4
    ∷ plain (changed ((53, 255) ∷ [])) 4
    ∷ plain (text_job (65 ∷ []) (font_span 255 0 1 0 0 0 0 0 [] [] ∷ [])) 0
    ∷ plain (changed ((62, 0x7f) ∷ (63, 0xc0) ∷ [])) 4
    ∷ plain (changed ((66, 2) ∷ [])) 4
    ∷ plain (changed ((67, 0x80) ∷ [])) 4
    ∷ plain (changed ((66, 1) ∷ (67, 0x80) ∷ [])) 0
    ∷ plain (changed ((71, 3) ∷ [])) 4
    ∷ plain (changed ((71, 2) ∷ [])) 0
    ∷ plain (changed ((71, 1) ∷ [])) 0
    ∷ plain (changed ((72, 12) ∷ [])) 4
    ∷ plain (changed ((73, 12) ∷ [])) 4
    ∷ plain (changed ((74, 8) ∷ [])) 4
    ∷ plain (changed ((72, 11) ∷ (73, 11) ∷ (74, 7) ∷ [])) 0
    ∷ plain (shifted 4 0) 4
    ∷ plain (shifted 2 0x3f800000) 4
    ∷ plain (shifted 3 0x3f800000) 0
    ∷ plain (shifted 3 0x7fc00000) 4
    ∷ plain (changed ((84, 0) ∷ [])) 4
    ∷ plain (changed ((84, 65) ∷ [])) 4
    ∷ plain (changed ((84, 64) ∷ [])) 0
    ∷ plain (changed ((86, 1) ∷ [])) 4
    ∷ plain (changed ((87, 255) ∷ (88, 255) ∷ [])) 0
    ∷ plain (changed ((90, 1) ∷ [])) 4
    ∷ plain (changed ((91, 255) ∷ (92, 255) ∷ [])) 0
    ∷ plain (changed ((94, 1) ∷ (95, 0) ∷ [])) 4
    ∷ plain (changed ((95, 255) ∷ (96, 255) ∷ [])) 0
    ∷ plain (changed ((93, 255) ∷ (94, 255) ∷ (95, 0) ∷ (96, 0) ∷ [])) 4
    ∷ plain (changed ((93, 255) ∷ (94, 255) ∷ (95, 0) ∷ (96, 1) ∷ [])) 0
    ∷ plain (changed ((97, 1) ∷ [])) 4
    ∷ plain (changed ((97, 255) ∷ [])) 4
    ∷ plain (changed ((102, 2) ∷ [])) 4
    ∷ plain (changed ((102, 1) ∷ [])) 0
    ∷ []

values-told : numbers values ≡ told values
unfolding computed built numbers told values
values-told = refl

-- float edges: sizes 2 ^ -20 and 2 ^ 20 pass, of either sign, and so do both zeros; their neighbours outside meet 4, and so do infinity and NaN.
-- A font size of 4,096 passes and the next above meets 4, 1/16 passes and the next below meets 4
edges : List Case
unfolding plain label changed with_letter
edges =
    plain (with_letter 0x35800000) 0
    ∷ plain (with_letter 0x49800000) 0
    ∷ plain (with_letter 0xb5800000) 0
    ∷ plain (with_letter 0xc9800000) 0
    ∷ plain (with_letter 0x80000000) 0
    ∷ plain (with_letter 0x357fffff) 4
    ∷ plain (with_letter 0x49800001) 4
    ∷ plain (with_letter 0xb57fffff) 4
    ∷ plain (with_letter 0xc9800001) 4
    ∷ plain (with_letter 0x7f800000) 4
    ∷ plain (with_letter 0x7fc00000) 4
    ∷ plain (with_letter 1) 4
    ∷ plain (changed ((54, 0x45) ∷ [])) 0
    ∷ plain (changed ((54, 0x45) ∷ (57, 1) ∷ [])) 4
    ∷ plain (changed ((54, 0x3d) ∷ [])) 0
    ∷ plain (changed ((54, 0x3d) ∷ (55, 0x7f) ∷ (56, 0xff) ∷ (57, 0xff) ∷ [])) 4
    ∷ plain (changed ((54, 0xc1) ∷ [])) 4
    ∷ []

edges-told : numbers edges ≡ told edges
unfolding computed built numbers told edges
edges-told = refl

-- 5: a continuation byte first; surrogates, overlong forms and code points past U+10FFFF, which itself passes; a character cut short; a byte index inside a character,
-- or equal to the text length. A text is tested where no span is
texts : List Case
unfolding plain label changed job_of text_job
texts =
    plain (changed ((45, 0x80) ∷ [])) 5
    ∷ plain (text_job (0xed ∷ 0xa0 ∷ 0x80 ∷ []) []) 5
    ∷ plain (text_job (0xc0 ∷ 0x80 ∷ []) []) 5
    ∷ plain (text_job (0xc1 ∷ 0xbf ∷ []) []) 5
    ∷ plain (text_job (0xe0 ∷ 0x9f ∷ 0xbf ∷ []) []) 5
    ∷ plain (text_job (0xf0 ∷ 0x8f ∷ 0xbf ∷ 0xbf ∷ []) []) 5
    ∷ plain (text_job (0xf4 ∷ 0x90 ∷ 0x80 ∷ 0x80 ∷ []) []) 5
    ∷ plain (text_job (0xf5 ∷ 0x80 ∷ 0x80 ∷ 0x80 ∷ []) []) 5
    ∷ plain (text_job (0xf4 ∷ 0x8f ∷ 0xbf ∷ 0xbf ∷ []) []) 0
    ∷ plain (text_job (0xed ∷ 0x9f ∷ 0xbf ∷ []) []) 0
    ∷ plain (text_job (0xe2 ∷ 0x82 ∷ []) []) 5
    ∷ plain (text_job (0xc3 ∷ 0xa9 ∷ []) (plain_span 0 2 (letter_row 1 1 1 ∷ []) ∷ [])) 5
    ∷ plain (changed ((83, 3) ∷ [])) 5
    ∷ plain (changed ((83, 2) ∷ [])) 0
    ∷ []

texts-told : numbers texts ≡ told texts
unfolding computed built numbers told texts
texts-told = refl

-- 6: end over the text length; start over end; start before the previous end. Empty spans pass
spans : List Case
unfolding plain label changed job_of text_job
spans =
    plain (changed ((52, 4) ∷ [])) 6
    ∷ plain (changed ((50, 3) ∷ (52, 2) ∷ [])) 6
    ∷ plain (changed ((50, 3) ∷ [])) 0
    ∷ plain (text_job (65 ∷ 66 ∷ 67 ∷ []) (plain_span 0 2 [] ∷ plain_span 1 3 [] ∷ [])) 6
    ∷ plain (text_job (65 ∷ 66 ∷ 67 ∷ []) (plain_span 0 2 [] ∷ plain_span 2 2 [] ∷ plain_span 2 3 [] ∷ [])) 0
    ∷ []

spans-told : numbers spans ≡ told spans
unfolding computed built numbers told spans
spans-told = refl

-- 7, 8 and 9, which only SpacingAndGlyphs meets, and a script without letter spacing does not where others collapse; 10 one byte short of the answer, and for a buffer of nothing; 10 also
-- for one of twice the job's bytes, where three times hold every answer
later : List Case
unfolding plain label changed job_of past_the_end full-list nearly-full no-width squeezed turned
later =
    plain (job_of (past_the_end ∷ [])) 7
    ∷ plain (job_of (full-list ∷ [])) 8
    ∷ plain (job_of (nearly-full ∷ [])) 0
    ∷ plain (changed (no-width 1)) 9
    ∷ plain (changed ((66, 1) ∷ (67, 0x40) ∷ (71, 1) ∷ (95, 0) ∷ [])) 0
    ∷ plain (changed (no-width 0)) 0
    ∷ plain (changed (no-width 2)) 0
    ∷ plain (squeezed (tag "Latn")) 9
    ∷ plain (squeezed (tag "Rohg")) 0
    ∷ record { job = label; lent = 228; number = 0 }
    ∷ record { job = label; lent = 227; number = 10 }
    ∷ record { job = label; lent = 0; number = 10 }
    ∷ record { job = turned; lent = 688; number = 0 }
    ∷ record { job = turned; lent = 687; number = 10 }
    ∷ record { job = turned; lent = 2 * length turned; number = 10 }
    ∷ []

later-told : numbers later ≡ told later
unfolding computed built numbers told later
later-told = refl

-- not only the first of its kind is looked at: the second font, number, shift, glyph and span; the third glyph's place; the second chunk's text and spans
seconds : List Case
unfolding plain label changed job_of text_job
seconds =
    plain (job_row 0 (font_row ∷ replicate 18 0 ∷ []) [] [] []) 4
    ∷ plain (plain_job (0 ∷ 0x7fc00000 ∷ []) [] []) 4
    ∷ plain (text_job [] (span_row 0 0 0 0 0 0 0 (bytes 5 0 ∷ (4 ∷ bytes 4 0) ∷ []) [] ∷ [])) 4
    ∷ plain (changed ((127, 2) ∷ [])) 4
    ∷ plain (text_job [] (plain_span 0 0 [] ∷ font_span 1 0 0 0 0 0 0 0 [] [] ∷ [])) 4
    ∷ plain (changed ((133, 3) ∷ [])) 5
    ∷ plain (job_of (chunk_row 0 (65 ∷ []) [] ∷ chunk_row 0 (0x80 ∷ []) [] ∷ [])) 5
    ∷ plain (job_of (chunk_row 0 (65 ∷ []) [] ∷ chunk_row 0 (65 ∷ []) (plain_span 0 2 [] ∷ []) ∷ [])) 6
    ∷ []

seconds-told : numbers seconds ≡ told seconds
unfolding computed built numbers told seconds
seconds-told = refl

-- two causes: the earlier check is told; of chunks, the earlier chunk's
order : List Case
unfolding plain label changed job_of past_the_end no-width
order =
    plain (take 152 (changed ((4, 2) ∷ []))) 1
    ∷ plain (changed ((4, 2) ∷ (6, 17) ∷ [])) 2
    ∷ plain (changed ((5, 2) ∷ (31, 17) ∷ [])) 3
    ∷ plain (changed ((5, 2) ∷ (45, 0x80) ∷ [])) 4
    ∷ plain (changed ((45, 0x80) ∷ (52, 4) ∷ [])) 5
    ∷ plain (changed ((52, 4) ∷ no-width 1)) 6
    ∷ record { job = (job_of (past_the_end ∷ [])); lent = 0; number = 7 }
    ∷ record { job = (changed (no-width 1)); lent = 0; number = 9 }
    ∷ []

order-told : numbers order ≡ told order
unfolding computed built numbers told order
order-told = refl
