-- The merged list as the code holds it, and the answer to a chunk's merge. Definitions only.
use Rattle.std.specs.Prelude.{ℕ, ◌≤◌, length, drop, Ok, Err}
use Rattle.std.specs.declared.result.Result.{Result}
use mathlib.Core.List.{List, [], ◌∷◌, foldl}
use Rattle.spec.specs.Lists.{All}
use Rattle.job_rows.specs.Rows.{parts_in}
unfoldable pub use Rattle.job_rows.specs.Rows.{glyphs_in}
use Rattle.spec.specs.Outcome.{Outcome, refused, given}
use Rattle.spec.specs.Bytes.{rows as records}
use Rattle.spec.specs.declared.Glyph.{Glyph}
use Rattle.spec.specs.declared.Refusal.{Refusal}
use Rattle.spec.specs.declared.Span.{Span}
use Rattle.spec.specs.Refusal.{refusal_number}
use Rattle.spec.specs.Job.{SpanParts, limits}
use Rattle.spec.specs.Decode.{glyph_of, glyph_bytes}
use Rattle.spec.specs.Merge.{Merging, span_begun, merge_glyph}

-- the answer as the definitions' outcome
unfoldable pub merged_of : Result ℕ Refusal → List ℕ → List ℕ → Outcome (List Glyph)
merged_of (Ok n) s rows = given (glyphs_in s rows n)
merged_of (Err r) s rows = refused (refusal_number r)

-- the span's n glyphs that stand in the record s from `first` on, merged into the list gs
abbrev pub merged_into : List Glyph → Span → List ℕ → ℕ → ℕ → Outcome Merging
merged_into gs span s first n =
    foldl (merge_glyph span) (given (span_begun gs)) (records (λ b. glyph_bytes) glyph_of n (drop first s))

-- the places replaced, where the merge was not refused
unfoldable pub places_in : Outcome Merging → List ℕ
places_in (refused k) = []
places_in (given m) = m.replaced

-- the places of the list that a span replaces; none where the span's own list becomes it
unfoldable pub replaced_places : List Glyph → SpanParts → List ℕ
replaced_places [] p = []
replaced_places (g ∷ gs) p = places_in (foldl (merge_glyph p.span) (given (span_begun (g ∷ gs))) p.glyphs)

-- a span's own list is no longer than its limit, as check 3 has it
abbrev pub FewGlyphs : SpanParts → Type 0
FewGlyphs p = length p.glyphs ≤ limits.glyphs

-- what the merge of a chunk asks for: the record, the spans at the places `spans` and their own lists are within their limits
pub record Mergeable (s spans : List ℕ) : Type 0 where
  pub size : length s ≤ 1_048_576
  pub few : length spans ≤ 255
  pub own : All FewGlyphs (parts_in s spans)
