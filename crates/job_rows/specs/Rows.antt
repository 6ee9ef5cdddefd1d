-- The rows of a job by their numbers, in its record s. Definitions only.
use Rattle.std.specs.Prelude.{ℕ, zero, suc, ◌+◌, min, List, [], ◌∷◌, map, length, take, drop}
use Rattle.spec.specs.Bytes.{be, rows}
use Rattle.spec.specs.declared.Font.{Font}
use Rattle.spec.specs.declared.Glyph.{Glyph}
use Rattle.spec.specs.declared.Job.{Job}
use Rattle.spec.specs.declared.Span.{Span}
use Rattle.spec.specs.Job as definitions
use Rattle.spec.specs.Job.{SpanParts}
use Rattle.spec.specs.Decode.{font_bytes, font_of, glyph_of, span_size, span_of, parts_of, list_of, chunk_size, chunk_of}

-- the n font rows, which begin behind length, version, writing mode and font count
unfoldable pub fonts_in : List ℕ → ℕ → List Font
fonts_in s n = rows (λ r. font_bytes) font_of n (drop 7 s)

-- the spans that begin at the places
unfoldable pub spans_in : List ℕ → List ℕ → List Span
spans_in s places = map (λ (at : ℕ). span_of (drop at s)) places

-- with their shifts and glyphs
unfoldable pub parts_in : List ℕ → List ℕ → List SpanParts
parts_in s places = map (λ (at : ℕ). parts_of (drop at s)) places

-- where n spans stand, one after the other, the first of them at `at`; no other place is past the end of the record
unfoldable pub span_places : List ℕ → ℕ → ℕ → List ℕ
span_places s at zero = []
span_places s at (suc n) = at ∷ span_places s (min (at + span_size (drop at s)) (length s)) n

-- the glyphs whose rows begin at the places
unfoldable pub glyphs_at : List ℕ → List ℕ → List Glyph
glyphs_at s places = map (λ (at : ℕ). glyph_of (drop at s)) places

-- of the first n places
unfoldable pub glyphs_in : List ℕ → List ℕ → ℕ → List Glyph
glyphs_in s places n = glyphs_at s (take n places)

-- the job whose parts stand at these places of the record
abbrev pub job_at : List ℕ → Job → definitions.Job
job_at s job =
    record {
      mode = job.mode;
      fonts = fonts_in s job.fonts;
      dx = list_of (drop job.dx s);
      dy = list_of (drop job.dy s);
      rotate = list_of (drop job.rotate s);
      chunks = rows chunk_size chunk_of (be 1 (drop job.chunks s)) (drop (job.chunks + 1) s);
    }

-- and its chunk that begins at `at`
abbrev pub chunk_at : List ℕ → Job → ℕ → definitions.Chunk
chunk_at s job at = chunk_of (drop at s)
