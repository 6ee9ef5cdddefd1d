-- The merged list: its glyphs are glyphs of the spans, and there are at most 1,024 of them. Assumes nothing.
use Prim.Native.Nat.{ℕ, ◌+◌, ◌-◌, ◌≤◌, ◌<◌}
use mathlib.Core.Path.{◌≡◌, refl, sym, subst}
use mathlib.Core.Bool.{Bool, true, false, cond}
use mathlib.Core.List.{List, [], ◌∷◌, foldl}
use native.Mathlib.Omega.{arith}
use lib.ListN.{length, length-append, length-take, length-drop, length-set}
use lib.Dec.{leb, ltb, ltb→lt, lit≤, T}
use Rattle.spec_laws.proofs.All.{all_append, all_take, all_drop, all_set, cond-keeps}
use Rattle.spec.specs.Lists.{All}
use Rattle.spec_laws.proofs.IfGiven.{of-given, given-then}
use Rattle.spec.specs.Outcome.{Outcome, refused, given, IfGiven}
use Rattle.spec.specs.declared.Glyph.{Glyph}
use Rattle.spec.specs.declared.Span.{Span}
use Rattle.spec.specs.Job.{SpanParts, limits}
use Rattle.spec.specs.Merge.{may_replace, place_of, length_at, removed, inserted, Merging, span_begun, replace_longer, replace, insert_next, replace_first, merge_glyph, merge_done, merge_span, merge_glyphs}

module _ (P : Glyph → Type 0) where
  -- what the merge keeps of its list
  pub record Kept (gs : List Glyph) : Type 0 where
    pub glyphs : All P gs
    pub few : length gs ≤ limits.merged

  abbrev Going : Merging → Type 0
  Going m = Kept m.list

  longer-keeps : (g : Glyph) (p : ℕ) (m : Merging) → P g → Going m → IfGiven Going (replace_longer g p m)
  unfolding replace_longer removed
  longer-keeps g p m h k =
      cond-keeps (IfGiven Going) (leb (p + g.length) (length m.list))
      record {
        glyphs = all_set p g h (all_append (all_take (p + 1) k.glyphs) (all_drop (p + 1 + (g.length - 1)) k.glyphs));
        few = simp (length-set, length-append, length-take, length-drop) (omega arith);
      }
      tt

  replace-keeps : (g : Glyph) (p : ℕ) (m : Merging) → P g → Going m → IfGiven Going (replace g p m)
  unfolding replace
  replace-keeps g p m h k =
      cond-keeps (IfGiven Going) (ltb (length_at m.list p) g.length) (longer-keeps g p m h k)
      record { glyphs = all_set p g h k.glyphs; few = simp length-set k.few }

  insert-keeps : (g : Glyph) (m : Merging) → P g → Going m → IfGiven Going (insert_next g m)
  unfolding insert_next inserted
  insert-keeps g m h k = go (ltb (length m.list) limits.merged) refl
    where
      put : Merging
      put = record { list = inserted m.next g m.list; replaced = m.replaced; owed = m.owed - 1; next = m.next + 1 }

      go : (b : Bool) → ltb (length m.list) limits.merged ≡ b → IfGiven Going (cond b (given put) (refused 8))
      go true e =
          let room : length m.list < limits.merged = ltb→lt _ _ (subst T (sym e) tt) in
          record {
            glyphs = all_append (all_take m.next k.glyphs) (All.more h (all_drop m.next k.glyphs));
            few = simp (length-append, length-take, length-drop) (omega arith);
          }
      go false e = tt

  first-keeps : (s : Span) (g : Glyph) (m : Merging) → P g → Going m → IfGiven Going (replace_first s g m)
  unfolding replace_first
  first-keeps s g m h k = cond-keeps (IfGiven Going) (may_replace s g m) (replace-keeps g (place_of g.index m.list) m h k) k

  glyph-keeps : (s : Span) (o : Outcome Merging) (g : Glyph) → P g → IfGiven Going o → IfGiven Going (merge_glyph s o g)
  unfolding merge_glyph
  glyph-keeps s o g h k =
      given-then Going Going o _ k (λ m going. cond-keeps (IfGiven Going) (ltb 0 m.owed) (insert-keeps g m h going) (first-keeps s g m h going))

  glyphs-keep : (s : Span) (o : Outcome Merging) {gs : List Glyph} → All P gs → IfGiven Going o → IfGiven Going (foldl (merge_glyph s) o gs)
  glyphs-keep s o All.none k = k
  glyphs-keep s o (All.more {x = g} h hs) k = glyphs-keep s (merge_glyph s o g) hs (glyph-keeps s o g h k)

  done-keeps : (o : Outcome Merging) → IfGiven Going o → IfGiven Kept (merge_done o)
  unfolding merge_done
  done-keeps o k = given-then Going Kept o _ k (λ m going. going)

  -- a span's own list
  abbrev pub SpanKept : SpanParts → Type 0
  SpanKept p = Kept p.glyphs

  span-keeps : (o : Outcome (List Glyph)) (p : SpanParts) → SpanKept p → IfGiven Kept o → IfGiven Kept (merge_span o p)
  unfolding merge_span
  span-keeps (refused n) p h k = tt
  span-keeps (given []) p h k = h
  span-keeps (given (g ∷ gs)) p h k = done-keeps _ (glyphs-keep p.span (given (span_begun (g ∷ gs))) h.glyphs k)

  spans-keep : (o : Outcome (List Glyph)) {ps : List SpanParts} → All SpanKept ps → IfGiven Kept o → IfGiven Kept (foldl merge_span o ps)
  spans-keep o All.none k = k
  spans-keep o (All.more {x = p} h hs) k = spans-keep (merge_span o p) hs (span-keeps o p h k)

  pub merged_keeps : (ps : List SpanParts) (gs : List Glyph) → All SpanKept ps → merge_glyphs ps ≡ given gs → Kept gs
  unfolding merge_glyphs
  merged_keeps ps gs h e = of-given Kept (merge_glyphs ps) gs (spans-keep (given []) h (record { glyphs = All.none; few = lit≤ tt })) e
