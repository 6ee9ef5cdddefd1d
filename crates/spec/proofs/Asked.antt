-- What demand 3 asks at some labels, in numbers: g, T, how far an offset may be from the exact one, and the exact offsets, computed from the job's
-- bytes. Assumes nothing.
use Prim.Native.Nat.{ℕ, ◌^◌}
use mathlib.Core.Path.{◌≡◌, refl}
use mathlib.Core.Bool.{Bool, true, false, ◌&&◌}
use mathlib.Core.List.{List, [], ◌∷◌, map}
use lib.Dec.{eqb, lit<}
use lib.IntN.{ℤ, pos, neg_ℤ}
use Rattle.float_error.specs.Fraction.{Frac, ◌/ᵠ◌, leᵠ}
use Rattle.spec.specs.Outcome.{Outcome, refused, given}
use Rattle.spec.specs.Job.{Job, Chunk, Glyph}
use Rattle.spec.specs.Check.{checked}
use Rattle.spec.specs.Merge.{merge_glyphs}
use Rattle.spec.specs.Script.Tag.{tag}
use Rattle.spec.specs.Exact.{ExactCluster, formed_exactly, layout_exactly, glyph_total, size_total, allowed}
use Rattle.spec.proofs.Compute.{computed}
use Rattle.spec.proofs.Seen.{whole, below, shown}
use Rattle.spec.proofs.Jobs.{font_row, wide_row, letter_row, full_span, font_span, span_row, plain_span, chunk_row, lists_job, plain_job, label_span, label_job, plain_variant, length_variant, thirds, mixed, built}

-- ---- what is asked of a job's one chunk

pub record Asked : Type 0 where
  pub glyphs : ℕ
  pub sizes : Frac
  pub distance : Frac
  pub offsets : List Frac

-- the same value
same : Frac → Frac → Bool
same a b = leᵠ a b && leᵠ b a

all_same : List Frac → List Frac → Bool
unfolding same
all_same [] [] = true
all_same [] (y ∷ ys) = false
all_same (x ∷ xs) [] = false
all_same (x ∷ xs) (y ∷ ys) = same x y && all_same xs ys

-- whether g, T, the distance and the offsets are these
of-glyphs : Job → Chunk → Outcome (List Glyph) → Asked → List Bool
unfolding all_same
of-glyphs job c (refused n) a = []
of-glyphs job c (given gs) a =
    let cs = formed_exactly job c gs in
    eqb (glyph_total cs) a.glyphs ∷ same (size_total job 0 c cs) a.sizes ∷ same (allowed job 0 c cs) a.distance
    ∷ all_same (map (λ (q : ExactCluster). q.x) (layout_exactly job 0 c cs)) a.offsets
    ∷ []

of-chunks : Job → List Chunk → Asked → List Bool
unfolding of-glyphs
of-chunks job [] a = []
of-chunks job (c ∷ cs) a = of-glyphs job c (merge_glyphs c.parts) a

of-job : Outcome Job → Asked → List Bool
unfolding of-chunks
of-job (refused n) a = []
of-job (given job) a = of-chunks job job.chunks a

compared : List ℕ → Asked → List Bool
unfolding of-job
compared bs a = of-job (checked bs) a

-- all four are
unfoldable agreed : List Bool
agreed = true ∷ true ∷ true ∷ true ∷ []

-- ---- fractions

infix 70 ◌over◌
◌over◌ : ℤ → ℕ → Frac
z over n = record { num = z; den = 1; above = lit< tt } /ᵠ n

plus : ℕ → Frac
plus n = pos n over 1

minus : ℕ → Frac
minus n = neg_ℤ (pos n) over 1

-- g, T, the distance as n ÷ 2 ^ k, and the offsets
asked : ℕ → ℕ → ℕ → ℕ → List Frac → Asked
unfolding plus
asked g t n k offsets = record { glyphs = g; sizes = plus t; distance = pos n over (2 ^ k); offsets = offsets }

unfoldable seen : Unit {0}
unfolding same all_same of-glyphs of-chunks of-job compared agreed ◌over◌ plus minus asked shown
seen = tt

-- ---- the label: 3 glyphs of advances 10, 4 and 10, with letter spacing 1 and word spacing 2 for each

-- with one more span, on some text
with_span : List ℕ → List ℕ → List ℕ
with_span text span = plain_job [] [] (chunk_row 2 text (label_span (length_variant 0 0 0 []) ∷ span ∷ []) ∷ [])

-- its own offsets
unmoved : List Frac
unfolding minus
unmoved = minus 28 ∷ minus 17 ∷ minus 10 ∷ []

-- no text length: 6 × 33 ÷ 2 ^ 20, whatever the adjust byte says
plain_label : map (λ (adjust : ℕ). compared (label_job (length_variant 0 0 adjust [])) (asked 3 33 198 20 unmoved)) (0 ∷ 1 ∷ 2 ∷ []) ≡ agreed ∷ agreed ∷ agreed ∷ []
unfolding computed built seen unmoved
plain_label = refl

-- letter spacing −11, which collapses the first two: their glyphs and advances count as before, 6 × 63 ÷ 2 ^ 20
collapsed-label : compared (label_job (plain_variant (tag "Latn") (below 11))) (asked 3 63 378 20 (minus 12 ∷ minus 12 ∷ minus 10 ∷ [])) ≡ agreed
unfolding computed built seen
collapsed-label = refl

-- SpacingAndGlyphs to 48 moves no cluster and sets no length spacing: 6 × 81 ÷ 2 ^ 18 all the same
scaled-label : compared (label_job (length_variant 1 (whole 48) 1 [])) (asked 3 81 486 18 unmoved) ≡ agreed
unfolding computed built seen unmoved
scaled-label = refl

-- the natural length, 28, brought to 54: 13 for each, and 6 × 87 ÷ 2 ^ 18
natural-label : compared (label_job (length_variant 1 (whole 54) 2 [])) (asked 3 87 522 18 (minus 54 ∷ minus 30 ∷ minus 10 ∷ [])) ≡ agreed
unfolding computed built seen
natural-label = refl

-- a text length of 0 is one
length-of-zero : compared (label_job (length_variant 1 0 0 [])) (asked 3 33 198 18 (minus 10 ∷ minus 12 ∷ minus 20 ∷ [])) ≡ agreed
unfolding computed built seen
length-of-zero = refl

-- so is that of a span without text, and without a font
empty-span : compared (with_span (65 ∷ 32 ∷ 66 ∷ []) (span_row 3 3 0 0 1 (whole 54) 0 [] [])) (asked 3 87 522 18 unmoved) ≡ agreed
unfolding computed built seen unmoved with_span
empty-span = refl

fontless-span : compared (with_span (65 ∷ 32 ∷ 66 ∷ 67 ∷ []) (font_span 255 3 4 0 0 1 0 0 [] [])) (asked 3 33 198 18 unmoved) ≡ agreed
unfolding computed built seen unmoved with_span
fontless-span = refl

-- ---- others

-- a single cluster gets 0 of its text length
single : compared (plain_job [] [] (chunk_row 2 (65 ∷ []) (span_row 0 1 0 0 1 (whole 54) 0 [] (letter_row 1 0 1 ∷ []) ∷ []) ∷ []))
    (asked 1 64 256 18 (minus 10 ∷ []))
    ≡ agreed
unfolding computed built seen
single = refl

-- the second letter is covered by a span of twice the size; the line ends at its anchor
two-sizes : compared (plain_job [] [] (chunk_row 2 (65 ∷ 66 ∷ []) (plain_span 0 1 (letter_row 1 0 1 ∷ letter_row 2 1 1 ∷ []) ∷ full_span 0 1 2 0x42000000 0 0 0 0 0 0 0 0 [] [] ∷ []) ∷ []))
    (asked 2 30 150 20 (minus 30 ∷ minus 20 ∷ []))
    ≡ agreed
unfolding computed built seen
two-sizes = refl

-- (50 − 40) ÷ 3 for each
thirds-exact : compared thirds (asked 4 90 630 18 (plus 0 ∷ (pos 40 over 3) ∷ (pos 80 over 3) ∷ plus 40 ∷ [])) ≡ agreed
unfolding computed built seen
thirds-exact = refl

-- all adjust values in one chunk: (50 − 40) ÷ 3 for each width 10, nothing for the advances 11 and 11, (50 − 43) ÷ 3 for the advances 11, 11, 11, 10
mixed-exact : compared mixed
    (asked 10 240 3120 18
    (plus 0 ∷ (pos 40 over 3) ∷ (pos 80 over 3) ∷ plus 40 ∷ (pos 160 over 3) ∷ (pos 193 over 3) ∷ (pos 226 over 3) ∷ (pos 266 over 3) ∷ plus 102 ∷ (pos 346 over 3) ∷ []))
    ≡ agreed
unfolding computed built seen
mixed-exact = refl

-- everything that T counts, some of it below zero, top to bottom and anchored in the middle. 4 glyphs of advances 10, −2, 4, 10, the first two of one
-- cluster; letter spacing −1 and word spacing 2 for 3 clusters; dx 3, −4; dy 0, −5, 6; text length 54
turned : compared (lists_job 1 (font_row ∷ []) (whole 3 ∷ below 4 ∷ []) (0 ∷ below 5 ∷ whole 6 ∷ []) [] (chunk_row 1 (65 ∷ 32 ∷ 66 ∷ []) (span_row 0 3 (below 1) (whole 2) 1 (whole 54) 0 [] (letter_row 1 0 1 ∷ wide_row 2 0 1 0xffffff00 ∷ wide_row 3 1 1 512 ∷ letter_row 4 2 1 ∷ []) ∷ []) ∷ []))
    (asked 4 107 749 18 ((neg_ℤ (pos 55) over 2) ∷ (neg_ℤ (pos 15) over 2) ∷ (pos 35 over 2) ∷ []))
    ≡ agreed
unfolding computed built seen
turned = refl
