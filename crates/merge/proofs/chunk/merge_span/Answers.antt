-- `merge::chunk::merge_span` meets its contract: the span's own list, or its glyphs merged. Assumes nothing.
use Prim.Native.Nat.{ℕ, ◌<◌}
use mathlib.Core.Path.{◌≡◌, refl}
use mathlib.Core.List.{List}
use lib.ListN.{length, drop}
use Rattle.std.specs.declared.result.Result.{Result}
use Rattle.spec.specs.Outcome.{given}
use Rattle.spec.specs.declared.Refusal.{Refusal}
use Rattle.spec.specs.declared.Span.{Span}
use Rattle.spec.specs.Bytes.{rows as records}
use Rattle.spec.specs.Decode.{glyph_bytes, glyph_of, parts_of, span_of}
use Rattle.spec.specs.Merge.{merge_span}
use Rattle.merge.specs.declared.progress.Marks.{Marks}
use Rattle.merge.specs.declared.glyph.GlyphRows.{GlyphRows}
use Rattle.merge.specs.Merged.{glyphs_in, merged_of, merged_into, replaced_places}
use Rattle.merge.specs.Steps.{stamped, SpanReady, SpanMerged, SpanEnded}
use Rattle.merge.proofs.Spans.{own-span, span-first, span_more}
use native.Mathlib.Omega.{arith}
use Rattle.merge.proofs.chunk.merge_span.Goals as goal

-- the span's merge is that of its glyphs into the list, which is not empty
merged-span : (s : List ℕ) (at : ℕ) (span : Span) (own : GlyphRows) (rows₀ : List ℕ) (marks₀ : Marks) (count : ℕ) (held : length rows₀ ≡ 1024) (r : Result ℕ Refusal) (rows : List ℕ) (marks : Marks)
    → records (λ b. glyph_bytes) glyph_of own.count (drop own.first s) ≡ (parts_of (drop at s)).glyphs
    → span ≡ span_of (drop at s) → 0 < count → SpanReady marks₀ count
    → SpanEnded r s rows marks₀ marks (merged_into (glyphs_in s rows₀ count) span s own.first own.count)
    → (let parts = parts_of (drop at s) in
    let gs = glyphs_in s rows₀ count in
    SpanMerged r s rows marks₀ marks (replaced_places gs parts) (merge_span (given gs) parts))
merged-span s at span own rows₀ marks₀ count held r rows marks whole is some begun ended =
    let bs = drop at s in
    span_more s (parts_of bs) own.first own.count whole rows₀ count some (omega (arith, held, begun.few))
    (SpanMerged r s rows marks₀ marks) (rw (← own-span bs, ← is) ended)

pub list_span-requires : goal.list_span-requires
list_span-requires c =
    (c.requires.0, c.requires.1, omega (arith, c.requires.1))

pub returns-then-count-eq0 : goal.returns-then-count-eq0
unfolding merged_of stamped
returns-then-count-eq0 c =
    let begun = c.requires.2 in
    let a = c.args in
    span-first a.s.now (parts_of (drop a.at a.s.now)) a.rows.now a.count (omega arith) (SpanMerged _ a.s.now _ a.marks.now a.marks.now)
    record {
      same-span = refl;
      marked = refl;
      held = rw c.list_span.ensures.1 c.requires.1;
      is = rw c.list_span.ensures.2;
    }

pub merge_glyphs-requires : goal.merge_glyphs-requires
merge_glyphs-requires c =
    let own = c.glyph_rows-own in
    let a = c.args in
    (c.requires.2, λ b. omega arith)

pub returns-then-own-count : goal.returns-then-own-count
returns-then-own-count c =
    let own = c.glyph_rows-own in
    let a = c.args in
    merged-span a.s.now a.at c.span_at-span.result own.result a.rows.now a.marks.now a.count (omega arith) _ _ _ own.ensures c.span_at-span.ensures (omega (arith, c.if-count-eq0.false)) c.requires.2 c.merge_glyphs.ensures

pub merge_many-requires : goal.merge_many-requires
merge_many-requires c =
    let own = c.glyph_rows-own in
    let a = c.args in
    c.requires.2

pub returns : goal.returns
returns c =
    let own = c.glyph_rows-own in
    let a = c.args in
    merged-span a.s.now a.at c.span_at-span.result own.result a.rows.now a.marks.now a.count (omega arith) _ _ _ own.ensures c.span_at-span.ensures (omega (arith, c.if-count-eq0.false)) c.requires.2 c.merge_many.ensures
