-- A span's own glyphs and their merge; one turn and the end of the loop over a chunk's spans. Assumes nothing.
use Prim.Native.Nat.{ℕ, ◌+◌, ◌≤◌, ◌<◌, min}
use mathlib.Core.Path.{◌≡◌, refl, sym, ◌∙◌}
use mathlib.Core.List.{List, [], ◌∷◌, foldl}
use native.Mathlib.Nat.{not-suc-le-zero}
use native.Mathlib.Numerals.{add-one}
use native.Mathlib.Omega.{arith}
use lib.ListN.{length, get_or, drop, drop_of_length-le}
use lib.Seq.{drop-cons, drop-drop}
use Rattle.spec.specs.Outcome.{Outcome, refused, given}
use Rattle.spec.specs.Bytes.{rows as records}
use Rattle.spec.specs.declared.Glyph.{Glyph}
use Rattle.spec.specs.Job.{SpanParts}
use Rattle.spec.specs.Decode.{glyph_of, glyph_bytes, glyph_count_at, glyph_count, span_of, parts_of}
use Rattle.spec.specs.Merge.{Merging, span_begun, merge_glyph, merge_done, merge_span, merge_glyphs}
use Rattle.spec_laws.proofs.All.{first, rest}
use Rattle.spec.specs.Lists.{All}
use Rattle.spec_laws.proofs.Records.{length-rows}
use Rattle.wire.proofs.Places.{cut-drops}
use Rattle.job_rows.specs.Rows.{parts_in}
use Rattle.job_rows.specs.Rows as lookup
use Rattle.merge.specs.Merged.{glyphs_in, places_in, replaced_places, FewGlyphs}
use Rattle.merge.proofs.Moved.{glyphs-count}

-- a span stands at `at`, of which p is the place or the end before it, and `row` is what follows there; its glyph count stands k bytes on, and is n
pub own-glyphs : (s row : List ℕ) (at p k n : ℕ) → row ≡ drop at s → p ≡ min at (length s) → k ≡ glyph_count_at row → n ≡ glyph_count row
    → records (λ b. glyph_bytes) glyph_of n (drop (p + k + 2) s) ≡ (parts_of (drop at s)).glyphs
unfolding parts_of
own-glyphs s row at p k n row_is p-is k-is n-is =
    let e : p + k + 2 ≡ p + (k + 2) = omega arith in
    rw (e, ← drop-drop (k + 2) p s, cut-drops at s p-is, n-is, k-is, row_is)

-- a span's parts, and its n glyphs, which stand from `first` on; its merge into a list of `count` glyphs
module _ (s : List ℕ) (parts : SpanParts) (first n : ℕ) (own : records (λ b. glyph_bytes) glyph_of n (drop first s) ≡ parts.glyphs) where
  pub own-count : n ≡ length parts.glyphs
  own-count = rw (← own, length-rows)

  -- which is not empty
  module _ (rows : List ℕ) (count : ℕ) (some : 0 < count) (held : count ≤ length rows) where
    abbrev merged : Outcome Merging
    merged = foldl (merge_glyph parts.span) (given (span_begun (glyphs_in s rows count))) (records (λ b. glyph_bytes) glyph_of n (drop first s))

    more : (gs : List Glyph) → 0 < length gs → (P : List ℕ → Outcome (List Glyph) → Type 0)
        → (let o = foldl (merge_glyph parts.span) (given (span_begun gs)) parts.glyphs in P (places_in o) (merge_done o))
        → P (replaced_places gs parts) (merge_span (given gs) parts)
    unfolding merge_span replaced_places
    more [] h P p = absurd (not-suc-le-zero h)
    more (g ∷ gs) h P p = p

    pub span_more : (P : List ℕ → Outcome (List Glyph) → Type 0) → P (places_in merged) (merge_done merged)
        → P (replaced_places (glyphs_in s rows count) parts) (merge_span (given (glyphs_in s rows count)) parts)
    span_more P p = more (glyphs_in s rows count) (rw (glyphs-count s rows count held) some) P (rw own at p)

-- an empty list becomes the span's own
pub span-first : (s : List ℕ) (parts : SpanParts) (rows : List ℕ) (count : ℕ) → count ≡ 0 → (P : List ℕ → Outcome (List Glyph) → Type 0) → P [] (given parts.glyphs)
    → P (replaced_places (glyphs_in s rows count) parts) (merge_span (given (glyphs_in s rows count)) parts)
unfolding merge_span replaced_places glyphs_in lookup.glyphs_at
span-first s parts rows count e P p = rw e p

pub own-span : (bs : List ℕ) → span_of bs ≡ (parts_of bs).span
unfolding parts_of
own-span bs = refl

-- ---- the spans from place i on

spans-refused : (k : ℕ) (ps : List SpanParts) → foldl merge_span (refused k) ps ≡ refused k
unfolding merge_span
spans-refused k [] = refl
spans-refused k (p ∷ ps) = spans-refused k ps

module _ (s spans : List ℕ) (i : ℕ) where
  -- the spans left, merged into o, give `whole`
  module _ (o whole : Outcome (List Glyph)) (left : foldl merge_span o (parts_in s (drop i spans)) ≡ whole) where
    turn : i < length spans → foldl merge_span (merge_span o (parts_of (drop (get_or spans i 0) s))) (parts_in s (drop (i + 1) spans)) ≡ whole
    unfolding parts_in
    turn h = rw add-one (rw (drop-cons spans i 0 h) at left)

    pub spans_on : (next : Outcome (List Glyph)) → i < length spans → next ≡ merge_span o (parts_of (drop (get_or spans i 0) s))
        → foldl merge_span next (parts_in s (drop (i + 1) spans)) ≡ whole
    spans_on next h e = rw e (turn h)

    pub spans-stop : (k : ℕ) → i < length spans → refused k ≡ merge_span o (parts_of (drop (get_or spans i 0) s)) → refused k ≡ whole
    spans-stop k h e = sym (spans-refused k (parts_in s (drop (i + 1) spans))) ∙ spans_on (refused k) h e

    pub spans-done : length spans ≤ i → o ≡ whole
    unfolding parts_in
    spans-done h = rw (drop_of_length-le spans h) at left

  pub few-here : i < length spans → All FewGlyphs (parts_in s (drop i spans)) → FewGlyphs (parts_of (drop (get_or spans i 0) s))
  unfolding parts_in
  few-here h few = first {P = FewGlyphs} (rw (drop-cons spans i 0 h) at few)

  pub few_on : i < length spans → All FewGlyphs (parts_in s (drop i spans)) → All FewGlyphs (parts_in s (drop (i + 1) spans))
  unfolding parts_in
  few_on h few = rw add-one (rest (rw (drop-cons spans i 0 h) at few))

pub spans-start : (s rows : List ℕ) (ps : List SpanParts) → foldl merge_span (given (glyphs_in s rows 0)) ps ≡ merge_glyphs ps
unfolding merge_glyphs glyphs_in lookup.glyphs_at
spans-start s rows ps = refl
