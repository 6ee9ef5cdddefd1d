-- A chunk that is sure to be laid out is not refused, whatever came before it. Assumes nothing.
use Prim.Native.Nat.{ℕ, ◌+◌, ◌≤◌, ◌<◌}
use mathlib.Core.Path.{◌≡◌, refl}
use mathlib.Core.Bool.{Bool, true, false, cond, not, ◌&&◌}
use mathlib.Core.List.{List, [], ◌∷◌, foldl}
use native.Mathlib.Omega.{arith}
use borrow.Author.Tests.{le-leb, lt-leb, leb-true}
use lib.ListN.{length}
use lib.Dec.{leb, eqb}
use Rattle.spec_laws.proofs.All.{neither, and_left, and_right}
use Rattle.spec_laws.proofs.Tests.{failed}
use Rattle.spec.specs.Outcome.{Outcome, given, and_then}
use Rattle.spec.specs.Lists.{any}
use Rattle.spec.specs.declared.Span.{Span}
use Rattle.spec.specs.declared.Cluster.{Cluster}
use Rattle.spec.specs.Job.{Job, Chunk, spans_of, has_length, adjust_spacing_and_glyphs}
use Rattle.spec.specs.WordSpacing.{apply_word_spacing}
use Rattle.spec.specs.Cluster.{rounded}
use Rattle.spec.specs.LengthAdjust.{adjust_span, apply_length_adjust}
use Rattle.spec.specs.Layout.{Progress, letter_spaced_clusters, adjusted_clusters, place_chunk, layout_chunk}
use Rattle.job_rows.specs.Rows.{spans_in, parts_in}
use Rattle.merge.specs.Source.{glyph_span, span_glyphs}
use Rattle.merge.proofs.Alone.{parts-length, alone-merged}
use Rattle.chunk.proofs.Checked.{spans-of}
use Rattle.chunk.specs.Sure.{stretches, sure}

-- a span that is not stretched is not refused
plain-given : (s : Span) (cs : List Cluster) → stretches s ≡ false → (ds : List Cluster) × (adjust_span (given cs) s ≡ given ds)
unfolding adjust_span
plain-given s cs h = go (has_length s) (eqb s.adjust adjust_spacing_and_glyphs) _ _ h
  where
    go : (a b : Bool) (o : Outcome (List Cluster)) (own : List Cluster) → (a && b) ≡ false
        → (ds : List Cluster) × (cond a (cond b o (given own)) (given cs) ≡ given ds)
    go false b o own h = (cs, refl)
    go true false o own h = (own, refl)
    go true true o own h = let z : ◌≡◌ {A = ℕ} 0 1 = cc h in absurd (omega arith)

plain-adjusted : (ss : List Span) (cs : List Cluster) → any stretches ss ≡ false → (ds : List Cluster) × (foldl adjust_span (given cs) ss ≡ given ds)
unfolding any
plain-adjusted [] cs h = (cs, refl)
plain-adjusted (s ∷ ss) cs h =
    let each = neither (stretches s) (any stretches ss) h in
    let one = plain-given s cs each.0 in
    let others = plain-adjusted ss one.0 each.1 in
    (others.0, rw one.1 others.1)

pub sure-laid : (job : Job) (st : Progress) (c : Chunk) → sure c ≡ true → (next : Progress) × (layout_chunk job (given st) c ≡ given next)
unfolding sure layout_chunk and_then adjusted_clusters apply_length_adjust
sure-laid job st c h =
    let alone = leb (length c.parts) (glyph_span c.parts (glyph_span c.parts 0 + 1)) in
    let plain = not (any stretches (spans_of c)) in
    let merged = alone-merged c.parts (leb-true (length c.parts) _ (and_left alone plain h)) in
    let gs = span_glyphs c.parts (glyph_span c.parts 0) in
    let adjusted = plain-adjusted (spans_of c) (apply_word_spacing rounded c.text (spans_of c) (letter_spaced_clusters job c gs)) (failed refl (and_right alone plain h)) in
    (place_chunk job st c gs adjusted.0, rw (merged, adjusted.1) refl)

-- ---- as the code finds it: `own` is the first span that has glyphs, and `other` the next behind it

module _ (s spans : List ℕ) (c : Chunk) (parts : parts_in s spans ≡ c.parts) {own other : ℕ} (e : own ≡ glyph_span (parts_in s spans) 0)
    (f : other ≡ glyph_span (parts_in s spans) (own + 1)) where
  pub unsure : other < length spans → false ≡ sure c
  unfolding sure
  unsure h =
      let less = lt-leb (length (parts_in s spans)) (glyph_span (parts_in s spans) (glyph_span (parts_in s spans) 0 + 1)) (rw (← rw e at f, parts-length s spans) h) in
      rw (← parts, less) refl

  pub sure-is : length spans ≤ other → {r : Bool} → r ≡ any stretches (spans_in s spans) → not r ≡ sure c
  unfolding sure
  sure-is h r-is =
      let few = le-leb (length (parts_in s spans)) (glyph_span (parts_in s spans) (glyph_span (parts_in s spans) 0 + 1)) (rw (← rw e at f, parts-length s spans) h) in
      rw (← spans-of s spans c parts, ← r-is, ← parts, few) refl
