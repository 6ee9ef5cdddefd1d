-- How many bytes step 6 looks at: of a span and byte indexes, and of jobs, computed from their bytes. Assumes nothing.
use Prim.Native.Nat.{ℕ}
use mathlib.Core.Path.{◌≡◌, refl}
use mathlib.Core.List.{List, [], ◌∷◌, map}
use Rattle.spec.specs.Outcome.{Outcome, refused, given}
use Rattle.spec.specs.Job.{Job, Chunk, Span, Glyph, no_font, adjust_spacing, spans_of}
use Rattle.spec.specs.Single.{+0}
use Rattle.spec.specs.Check.{checked}
use Rattle.spec.specs.Merge.{merge_glyphs}
use Rattle.spec.specs.WordSpacing.{apply_word_spacing}
use Rattle.spec.specs.Cluster.{rounded}
use Rattle.spec.specs.Layout.{letter_spaced_clusters}
use Rattle.spec.specs.Looked.{bytes_looked, spans_looked}
use Rattle.spec.proofs.Compute.{computed}
use Rattle.spec.proofs.Seen.{whole, below, shown}
use Rattle.spec.proofs.Jobs.{letter_row, wide_row, span_row, plain_span, chunk_row, plain_job, built, mixed}

-- ---- of a span

from : ℕ → ℕ → Span
from start end =
    record { start = start; end = end; font = no_font; size = +0; letter = +0; word = +0; fixed = 1; length = +0; adjust = adjust_spacing; dominant = 0; alignment = 0; decorations = 0 }

-- of bytes 2 to 8: no cluster; one at the start; one at the last byte; one before the start and one at the end, which it does not cover
one-cluster : map (bytes_looked (from 2 8)) ([] ∷ (2 ∷ []) ∷ (7 ∷ []) ∷ (1 ∷ 8 ∷ []) ∷ []) ≡ 0 ∷ 1 ∷ 6 ∷ 0 ∷ []
unfolding computed from
one-cluster = refl

-- in text order, right to left, mixed; two of one byte index; with clusters of other spans among them
orders : map (bytes_looked (from 0 6)) ((0 ∷ 3 ∷ 5 ∷ []) ∷ (5 ∷ 3 ∷ 0 ∷ []) ∷ (3 ∷ 5 ∷ 0 ∷ []) ∷ (3 ∷ 3 ∷ []) ∷ (9 ∷ 2 ∷ 7 ∷ 6 ∷ []) ∷ []) ≡ 6 ∷ 6 ∷ 6 ∷ 4 ∷ 3 ∷ []
unfolding computed from
orders = refl

-- as long as a text may be, with one cluster at its first byte or at its last
long : map (bytes_looked (from 0 4_096)) ((0 ∷ []) ∷ (4_095 ∷ []) ∷ []) ≡ 1 ∷ 4_096 ∷ []
unfolding computed from
long = refl

-- a span that covers no byte
empty : bytes_looked (from 3 3) (3 ∷ []) ≡ 0
unfolding computed from
empty = refl

-- ---- of each chunk of a job, whose glyphs are merged without a refusal

chunk_looked : Job → Chunk → Outcome (List Glyph) → ℕ
chunk_looked job c (refused n) = 0
chunk_looked job c (given gs) = spans_looked (given (apply_word_spacing rounded c.text (spans_of c) (letter_spaced_clusters job c gs))) (spans_of c)

job_looked : Outcome Job → List ℕ
unfolding chunk_looked
job_looked (refused n) = []
job_looked (given job) = map (λ (c : Chunk). chunk_looked job c (merge_glyphs c.parts)) job.chunks

pub looked : List ℕ → List ℕ
unfolding job_looked
looked bs = job_looked (checked bs)

-- opens them
unfoldable pub counted : Unit {0}
unfolding chunk_looked job_looked looked shown
counted = tt

-- the text "ABCD"
abcd : List (List ℕ) → List ℕ
abcd spans = plain_job [] [] (chunk_row 0 (65 ∷ 66 ∷ 67 ∷ 68 ∷ []) spans ∷ [])

-- all three values of adjust count, 4 and 2 and 4 bytes
by-adjust : looked mixed ≡ 10 ∷ []
unfolding computed built counted
by-adjust = refl

-- a span without a text length does not: of A to C the first span has A, the second B and C
flag-clear : map (λ (second : List ℕ). looked (abcd (span_row 0 1 0 0 1 (whole 54) 0 [] (letter_row 1 0 1 ∷ letter_row 2 1 1 ∷ letter_row 3 2 1 ∷ []) ∷ second ∷ [])))
    (plain_span 1 4 [] ∷ span_row 1 4 0 0 1 (whole 54) 0 [] [] ∷ [])
    ≡ (1 ∷ []) ∷ (3 ∷ []) ∷ []
unfolding computed built counted abcd
flag-clear = refl

-- a collapsed cluster counts: right to left, B collapses by its letter spacing of −11, and A stands last and does not
collapsed-too : looked (abcd (span_row 0 4 (below 11) 0 1 (whole 54) 0 [] (letter_row 2 1 1 ∷ letter_row 1 0 1 ∷ []) ∷ [])) ≡ 2 ∷ []
unfolding computed built counted abcd
collapsed-too = refl

-- after a refusal there is none: A has no width, so that its span is refused with 9, and B's is not looked at
refused-there : map (λ (width : ℕ). looked (abcd (span_row 0 1 0 0 1 (whole 54) 1 [] (wide_row 1 0 1 width ∷ letter_row 2 1 1 ∷ []) ∷ span_row 1 4 0 0 1 (whole 54) 1 [] [] ∷ [])))
    (0 ∷ 1_280 ∷ [])
    ≡ (1 ∷ []) ∷ (2 ∷ []) ∷ []
unfolding computed built counted abcd
refused-there = refl
