-- The merged list of a chunk has no more glyphs than the chunk's spans have glyph rows: each row adds at most one. Assumes nothing.
use Prim.Native.Nat.{ℕ, suc, ◌+◌, ◌≤◌}
use mathlib.Core.Path.{◌≡◌, subst}
use mathlib.Core.List.{List, [], ◌∷◌, foldl}
use native.Mathlib.Nat.{le_refl}
use native.Mathlib.Omega.{arith}
use lib.ListN.{length, length-append, length-take, length-drop, length-set}
use lib.Dec.{leb, ltb}
use Rattle.spec_laws.proofs.All.{cond-keeps}
use Rattle.spec_laws.proofs.IfGiven.{of-given, given-then}
use Rattle.spec_laws.proofs.Sums.{total}
use Rattle.spec.specs.Outcome.{Outcome, refused, given, IfGiven}
use Rattle.spec.specs.declared.Glyph.{Glyph}
use Rattle.spec.specs.declared.Span.{Span}
use Rattle.spec.specs.Job.{SpanParts, limits}
use Rattle.spec.specs.Merge.{may_replace, place_of, length_at, removed, inserted, Merging, span_begun, replace_longer, replace, insert_next, replace_first, merge_glyph, merge_done, merge_span, merge_glyphs}

-- how many glyph rows some spans have
abbrev pub glyph_rows_in : List SpanParts → ℕ
glyph_rows_in = total (λ (p : SpanParts). length p.glyphs)

-- the list has at most n glyphs
abbrev ShortList : ℕ → List Glyph → Type 0
ShortList n gs = length gs ≤ n

abbrev Short : ℕ → Merging → Type 0
Short n m = ShortList n m.list

module _ (n : ℕ) where
  abbrev Next : Outcome Merging → Type 0
  Next = IfGiven (Short (suc n))

  longer-short : (g : Glyph) (p : ℕ) (m : Merging) → Short n m → Next (replace_longer g p m)
  unfolding replace_longer removed
  longer-short g p m h =
      cond-keeps Next (leb (p + g.length) (length m.list)) (simp (length-set, length-append, length-take, length-drop) (omega arith)) tt

  replace-short : (g : Glyph) (p : ℕ) (m : Merging) → Short n m → Next (replace g p m)
  unfolding replace
  replace-short g p m h = cond-keeps Next (ltb (length_at m.list p) g.length) (longer-short g p m h) (simp length-set (omega arith))

  insert-short : (g : Glyph) (m : Merging) → Short n m → Next (insert_next g m)
  unfolding insert_next inserted
  insert-short g m h = cond-keeps Next (ltb (length m.list) limits.merged) (simp (length-append, length-take, length-drop) (omega arith)) tt

  first_short : (s : Span) (g : Glyph) (m : Merging) → Short n m → Next (replace_first s g m)
  unfolding replace_first
  first_short s g m h = cond-keeps Next (may_replace s g m) (replace-short g (place_of g.index m.list) m h) (omega arith)

  -- a glyph row adds at most one
  glyph-short : (s : Span) (o : Outcome Merging) (g : Glyph) → IfGiven (Short n) o → Next (merge_glyph s o g)
  unfolding merge_glyph
  glyph-short s o g h =
      given-then (Short n) (Short (suc n)) o _ h (λ m short. cond-keeps Next (ltb 0 m.owed) (insert-short g m short) (first_short s g m short))

glyphs-short : (s : Span) (n m : ℕ) (o : Outcome Merging) (gs : List Glyph) → n + length gs ≤ m → IfGiven (Short n) o
    → IfGiven (ShortList m) (merge_done (foldl (merge_glyph s) o gs))
unfolding merge_done
glyphs-short s n m o [] e h = given-then (Short n) (ShortList m) o _ h (λ done short. omega arith)
glyphs-short s n m o (g ∷ gs) e h = glyphs-short s (suc n) m (merge_glyph s o g) gs (omega arith) (glyph-short n s o g h)

span-short : (n : ℕ) (o : Outcome (List Glyph)) (p : SpanParts) → IfGiven (ShortList n) o → IfGiven (ShortList (n + length p.glyphs)) (merge_span o p)
unfolding merge_span
span-short n (refused k) p h = tt
span-short n (given []) p h = omega arith
span-short n (given (g ∷ gs)) p h = glyphs-short p.span n _ (given (span_begun (g ∷ gs))) p.glyphs (le_refl _) h

spans-short : (n m : ℕ) (o : Outcome (List Glyph)) (ps : List SpanParts) → n + glyph_rows_in ps ≡ m → IfGiven (ShortList n) o → IfGiven (ShortList m) (foldl merge_span o ps)
spans-short n m o [] e h = let same : n ≡ m = omega arith in subst (λ (k : ℕ). IfGiven (ShortList k) o) same h
spans-short n m o (p ∷ ps) e h = spans-short (n + length p.glyphs) m (merge_span o p) ps (omega arith) (span-short n o p h)

pub merged-length : (ps : List SpanParts) (gs : List Glyph) → merge_glyphs ps ≡ given gs → length gs ≤ glyph_rows_in ps
unfolding merge_glyphs
merged-length ps gs e = of-given (ShortList (glyph_rows_in ps)) (merge_glyphs ps) gs (spans-short 0 (glyph_rows_in ps) (given []) ps (omega arith) (le_refl 0)) e
