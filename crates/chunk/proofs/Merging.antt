-- What a chunk's merge asks for is checked; behind it the chunk is laid out, or refused with the merge's number. Assumes nothing.
use Prim.Native.Nat.{ℕ, zero, suc, ◌+◌, ◌≤◌}
use mathlib.Core.Path.{◌≡◌, refl, sym, ap, subst, ◌∙◌}
use mathlib.Core.List.{List, [], ◌∷◌}
use native.Mathlib.Omega.{arith}
use lib.ListN.{length, take, drop, length-take}
use Rattle.spec_laws.proofs.All.{all-weaken, first, rest}
use Rattle.spec_laws.proofs.Counted.{CountedParts, chunk-counted}
use Rattle.spec.specs.Outcome.{given, and_then}
use Rattle.spec.specs.Lists.{get_map_or, All}
use Rattle.spec.specs.Job.{SpanParts, limits}
use Rattle.spec.specs.Merge.{merge_glyphs}
use Rattle.spec.specs.Layout.{layout_chunk}
use Rattle.job_rows.specs.Rows.{parts_in, glyphs_in}
use Rattle.std.specs.Prelude.{Ok, Err, IfOk}
use Rattle.std.specs.declared.result.Result.{Result}
use Rattle.spec.specs.declared.Refusal.{Refusal}
use Rattle.merge.specs.Merged.{merged_of, FewGlyphs}
use Rattle.spec_laws.proofs.Search.{find-le}
use Rattle.merge.specs.Source.{has_glyphs, glyph_span, span_glyphs}
use Rattle.merge.proofs.Alone.{parts-length, alone-merged}
use Rattle.chunk.specs.declared.progress.NextChunk.{NextChunk}
use Rattle.chunk.specs.declared.progress.Progress.{Progress}
use Rattle.chunk.specs.Checked.{SpannedChunk, OwnMerged, MergedChunk}
use Rattle.chunk.specs.Steps.{chunk_outcome, result_of, buffer_after_chunks, merged_outcome, ChunkWritten}

all-at_or : (ps : List SpanParts) (k : ℕ) → All FewGlyphs ps → length (span_glyphs ps k) ≤ limits.glyphs
unfolding get_map_or
all-at_or [] k h = omega arith
all-at_or (p ∷ ps) zero h = first h
all-at_or (p ∷ ps) (suc k) h = all-at_or ps k (rest h)

-- `own` is the first span that has glyphs, and `other` the next behind it
module _ (s spans : List ℕ) {own : ℕ} (e : own ≡ glyph_span (parts_in s spans) 0) where
  pub own-within : own ≤ length spans
  own-within = omega (arith, e, find-le has_glyphs (parts_in s spans), parts-length s spans)

  -- where there is none, the first one's glyphs are merged as they stand
  pub own_alone : {other : ℕ} → other ≡ glyph_span (parts_in s spans) (own + 1) → length spans ≤ other → OwnMerged s spans own
  own_alone f h = rw e (alone-merged (parts_in s spans) (rw (← rw e at f, parts-length s spans) h))

module _ {s : List ℕ} {next : NextChunk} {spans : List ℕ} (p : SpannedChunk s next spans) where
  pub few-glyphs : All FewGlyphs (parts_in s spans)
  few-glyphs =
      subst (All FewGlyphs) (sym p.parts)
      (all-weaken (λ (q : SpanParts) (h : CountedParts q). h.glyphs) (chunk-counted (drop next.at s) p.checked.fits).parts)

  -- one span's own glyphs, listed
  pub own-few : (own : ℕ) → length (span_glyphs (parts_in s spans) own) ≤ limits.glyphs
  own-few own = all-at_or (parts_in s spans) own few-glyphs

  pub own-merged : (own : ℕ) → OwnMerged s spans own → (rows : List ℕ) {n : ℕ} → n ≡ length (span_glyphs (parts_in s spans) own)
      → glyphs_in s rows n ≡ span_glyphs (parts_in s spans) own → MergedChunk s next spans (take n rows)
  unfolding glyphs_in
  own-merged own e rows many is = record { spanned = p; few = rw length-take (omega (arith, many, own-few own)); glyphs = e ∙ ap given (sym is) }

  -- the rows that the merge left, where it gave glyphs
  pub list-merged : (rows : List ℕ) {r : Result ℕ Refusal} {n : ℕ} → r ≡ Ok n → IfOk r (λ n. n ≤ limits.merged) × (merged_of r s rows ≡ merge_glyphs (parts_in s spans))
      → MergedChunk s next spans (take n rows)
  unfolding merged_of glyphs_in
  list-merged rows is h = record { spanned = p; few = rw length-take (omega (arith, rw is at h.0)); glyphs = sym (rw is at h.1) }

  -- a refused merge refuses the chunk
  pub refused-laid : (rows : List ℕ) {r : Result ℕ Refusal} {k : Refusal} → r ≡ Err k → merged_of r s rows ≡ merge_glyphs (parts_in s spans) → {old new : List ℕ} → new ≡ old
      → ChunkWritten next.before (Err k) old new (chunk_outcome s next)
  unfolding merged_of layout_chunk and_then result_of buffer_after_chunks
  refused-laid rows is e kept = rw (ap merge_glyphs (sym p.parts) ∙ sym (rw is at e)) (record { laid = refl; buffer = kept })

-- behind a merge that gave glyphs the chunk is laid out as they are
pub merged-laid : {s : List ℕ} {next : NextChunk} {spans merged old new : List ℕ} {r : Result Progress Refusal} → MergedChunk s next spans merged
    → ChunkWritten next.before r old new (merged_outcome s next merged) → ChunkWritten next.before r old new (chunk_outcome s next)
unfolding layout_chunk merged_outcome and_then
merged-laid m h = rw (ap merge_glyphs (sym m.spanned.parts) ∙ m.glyphs) h
