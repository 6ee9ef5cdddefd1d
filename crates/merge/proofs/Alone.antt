-- Where no more than one span has glyphs, these are the merged list. Assumes nothing.
use Prim.Native.Nat.{ℕ, zero, suc, ◌+◌, ◌-◌, ◌≤◌, ◌<◌}
use mathlib.Core.Path.{◌≡◌, refl, sym, ap, ◌∙◌}
use mathlib.Core.Bool.{true, false}
use mathlib.Core.List.{List, [], ◌∷◌, foldl}
use native.Mathlib.Nat.{not-suc-le-zero, le_of_suc-le-suc}
use native.Mathlib.Omega.{arith}
use lib.Dec.{ltb}
use borrow.Author.Tests.{lt-ltb, le-ltb}
use lib.ListN.{length, get_or, drop, length-drop, length-map}
use Rattle.std.specs.Prelude.{Option, unwrap_or}
use Rattle.std.specs.List.{position}
use Rattle.std.proofs.lemmas.List.{drop-map}
use Rattle.spec_laws.proofs.Records.{length-rows}
use Rattle.spec.specs.Outcome.{given, and_then}
use Rattle.spec.specs.Lists.{is_empty, find_idx, get_map_or}
use Rattle.spec.specs.declared.Glyph.{Glyph}
use Rattle.spec.specs.Job.{SpanParts}
use Rattle.spec.specs.Decode.{glyph_bytes, glyph_of, glyph_count, parts_of}
use Rattle.spec.specs.Merge.{merge_done, merge_span, merge_glyphs}
use Rattle.job_rows.specs.Rows.{parts_in}
use Rattle.merge.specs.Source.{has_glyphs, glyph_span, span_glyphs}
use Rattle.merge.proofs.Found.{found}

-- a span without glyphs leaves the list as it is
none_more : (gs : List Glyph) (p : SpanParts) → p.glyphs ≡ [] → merge_span (given gs) p ≡ given gs
unfolding merge_span merge_done and_then
none_more [] p e = ap given e
none_more (g ∷ gs) p e = rw e refl

-- and so do several
none-merged : (gs : List Glyph) (ps : List SpanParts) → length ps ≤ find_idx has_glyphs ps → foldl merge_span (given gs) ps ≡ given gs
unfolding find_idx is_empty
none-merged gs [] h = refl
none-merged gs (p ∷ ps) h = go p.glyphs refl (none-merged gs ps)
  where
    go : (own : List Glyph) → p.glyphs ≡ own → (length ps ≤ find_idx has_glyphs ps → foldl merge_span (given gs) ps ≡ given gs)
        → foldl merge_span (merge_span (given gs) p) ps ≡ given gs
    go [] e others = rw (none_more gs p e) (others (le_of_suc-le-suc (rw e at h)))
    go (g ∷ rest) e others = absurd (not-suc-le-zero (rw e at h))

-- the spans behind the first that has glyphs
abbrev behind : List SpanParts → List SpanParts
behind ps = drop (find_idx has_glyphs ps + 1) ps

only-merged : (ps : List SpanParts) → length ps ≤ find_idx has_glyphs ps + 1 + find_idx has_glyphs (behind ps)
    → foldl merge_span (given []) ps ≡ given (span_glyphs ps (find_idx has_glyphs ps))
unfolding find_idx is_empty get_map_or merge_span
only-merged [] h = refl
only-merged (p ∷ ps) h = go p.glyphs refl (only-merged ps)
  where
    go : (own : List Glyph) → p.glyphs ≡ own
        → (length ps ≤ find_idx has_glyphs ps + 1 + find_idx has_glyphs (behind ps) → foldl merge_span (given []) ps ≡ given (span_glyphs ps (find_idx has_glyphs ps)))
        → foldl merge_span (given p.glyphs) ps ≡ given (span_glyphs (p ∷ ps) (find_idx has_glyphs (p ∷ ps)))
    go [] e others =
        let k = find_idx has_glyphs ps in
        let past : suc k + 1 ≡ suc (k + 1) = omega arith in
        rw e (others (omega (arith, rw (e, past) at h)))
    go (g ∷ rest) e others = rw e (none-merged (g ∷ rest) ps (omega (arith, rw e at h)))

-- no span behind the first that has glyphs has any
pub alone-merged : (ps : List SpanParts) → length ps ≤ glyph_span ps (glyph_span ps 0 + 1) → merge_glyphs ps ≡ given (span_glyphs ps (glyph_span ps 0))
unfolding merge_glyphs
alone-merged ps h =
    let first : 0 + find_idx has_glyphs ps ≡ find_idx has_glyphs ps = omega arith in
    rw first (only-merged ps (rw first at h))

-- ---- a span's own glyphs, counted

pub parts-length : (s spans : List ℕ) → length (parts_in s spans) ≡ length spans
unfolding parts_in
parts-length s spans = length-map spans _

pub glyphs-counted : (span : List ℕ) → length (parts_of span).glyphs ≡ glyph_count span
unfolding parts_of
glyphs-counted span = length-rows (λ b. glyph_bytes) glyph_of (glyph_count span) _

some-glyphs : (p : SpanParts) (own : List Glyph) → p.glyphs ≡ own → 0 < length own → has_glyphs p ≡ true
unfolding is_empty
some-glyphs p [] e h = absurd (not-suc-le-zero h)
some-glyphs p (g ∷ gs) e h = rw e refl

no-glyphs : (p : SpanParts) (own : List Glyph) → p.glyphs ≡ own → length own ≤ 0 → has_glyphs p ≡ false
unfolding is_empty
no-glyphs p [] e h = rw e refl
no-glyphs p (g ∷ gs) e h = absurd (not-suc-le-zero h)

-- its count says whether it has glyphs
counted : (span : List ℕ) → has_glyphs (parts_of span) ≡ ltb 0 (glyph_count span)
counted span = go (glyph_count span) (glyphs-counted span)
  where
    go : (n : ℕ) → length (parts_of span).glyphs ≡ n → has_glyphs (parts_of span) ≡ ltb 0 n
    go zero e = rw (le-ltb 0 0 (omega arith)) (no-glyphs (parts_of span) _ refl (omega arith))
    go (suc n) e = rw (lt-ltb 0 (suc n) (omega arith)) (some-glyphs (parts_of span) _ refl (omega arith))

-- so the first that has any is the first whose count is not 0
find-counted : (s spans : List ℕ) → find_idx (λ (at : ℕ). ltb 0 (glyph_count (drop at s))) spans ≡ find_idx has_glyphs (parts_in s spans)
unfolding find_idx parts_in
find-counted s [] = refl
find-counted s (at ∷ spans) = rw (counted (drop at s), find-counted s spans)

-- the search from number k on, of n spans left
pub span-found : (s spans : List ℕ) (k : ℕ) {o : Option ℕ} {r n : ℕ} → o ≡ position (λ (at : ℕ). ltb 0 (glyph_count (drop at s))) (drop k spans)
    → r ≡ unwrap_or o n → n ≡ length spans - k → k + r ≡ glyph_span (parts_in s spans) k
unfolding parts_in
span-found s spans k {n = n} e f g =
    let rest : n ≡ length (drop k spans) = g ∙ sym (length-drop k spans) in
    let is = found (λ (at : ℕ). ltb 0 (glyph_count (drop at s))) (drop k spans) e (rw rest at f) in
    rw (is, find-counted s (drop k spans), drop-map (λ (at : ℕ). parts_of (drop at s)) k spans)

-- ---- the glyphs of one span

pub own-here : (s spans : List ℕ) (k : ℕ) → k < length spans → span_glyphs (parts_in s spans) k ≡ (parts_of (drop (get_or spans k 0) s)).glyphs
unfolding parts_in get_map_or
own-here s [] k h = absurd (not-suc-le-zero h)
own-here s (p ∷ ps) zero h = refl
own-here s (p ∷ ps) (suc k) h = own-here s ps k (le_of_suc-le-suc h)

pub own-past : (s spans : List ℕ) (k : ℕ) → length spans ≤ k → span_glyphs (parts_in s spans) k ≡ []
unfolding parts_in get_map_or
own-past s [] k h = refl
own-past s (p ∷ ps) zero h = absurd (not-suc-le-zero h)
own-past s (p ∷ ps) (suc k) h = own-past s ps k (le_of_suc-le-suc h)
