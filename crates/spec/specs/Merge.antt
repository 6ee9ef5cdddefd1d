-- Step 1: the spans' glyph lists merged into one, as `process_chunk` of source document 000 does. Definitions only.
use Rattle.std.specs.Prelude.{ℕ, ◌+◌, ◌-◌, Bool, not, cond, ◌&&◌, take, drop, set, length, leb, ltb, eqb}
use mathlib.Core.List.{List, [], ◌∷◌, ◌++◌, foldl}
use Rattle.spec.specs.Outcome.{Outcome, refused, given, and_then}
use Rattle.spec.specs.Lists.{elem, find_idx, get_map_or}
use Rattle.spec.specs.Job.{Glyph, Span, SpanParts, limits}

-- the span covers byte index i
abbrev pub span_contains : Span → ℕ → Bool
span_contains s i = leb s.start i && ltb i s.end

-- the place of the first glyph of byte index i; the list's length where there is none
abbrev pub place_of : ℕ → List Glyph → ℕ
place_of i gs = find_idx (λ (g : Glyph). eqb g.index i) gs

-- the cluster length of the glyph at place p
abbrev pub length_at : List Glyph → ℕ → ℕ
length_at gs p = get_map_or 0 (λ (g : Glyph). g.length) gs p

-- the list without the n glyphs after place p
unfoldable pub removed : ℕ → ℕ → List Glyph → List Glyph
removed p n gs = take (p + 1) gs ++ drop (p + 1 + n) gs

-- the list with g at place p, and what stood there after it
unfoldable pub inserted : ℕ → Glyph → List Glyph → List Glyph
inserted p g gs = take p gs ++ g ∷ drop p gs

-- a span's merge on its way through the span's glyphs
pub record Merging : Type 0 where
  -- the list
  pub list : List Glyph
  -- the places replaced in this span
  pub replaced : List ℕ
  -- how many of the next glyphs are still to be inserted unfiltered
  pub owed : ℕ
  -- the place for the first of them
  pub next : ℕ

-- before a span's first glyph: no place of the list is replaced, and no glyph is to be inserted
abbrev pub span_begun : List Glyph → Merging
span_begun gs = record { list = gs; replaced = []; owed = 0; next = 0 }

-- The new glyph takes place p, and its cluster length is longer than the old one: that length less 1 glyphs after it are removed. Refused with 7
-- where that removes a glyph past the end.
unfoldable pub replace_longer : Glyph → ℕ → Merging → Outcome Merging
replace_longer g p m =
    cond (leb (p + g.length) (length m.list))
    (given record { list = set (removed p (g.length - 1) m.list) p g; replaced = p ∷ m.replaced; owed = 0; next = 0 }) (refused 7)

-- The new glyph takes place p. If its cluster length is shorter than the old one, up to the old length less 1 of the next glyphs are to be
-- inserted after it.
unfoldable pub replace : Glyph → ℕ → Merging → Outcome Merging
replace g p m =
    let old = length_at m.list p in
    cond (ltb old g.length) (replace_longer g p m)
    (given record { list = set m.list p g; replaced = p ∷ m.replaced; owed = cond (ltb g.length old) (old - 1) 0; next = p + 1 })

-- The glyph is one of those to be inserted unfiltered. Refused with 8 where the list would pass its limit.
unfoldable pub insert_next : Glyph → Merging → Outcome Merging
insert_next g m =
    cond (ltb (length m.list) limits.merged)
    (given record { list = inserted m.next g m.list; replaced = m.replaced; owed = m.owed - 1; next = m.next + 1 }) (refused 8)

-- whether a glyph replaces the first of its byte index: it is within its span, there is one, and its place was not already replaced in this span
abbrev pub may_replace : Span → Glyph → Merging → Bool
may_replace s g m =
    let p = place_of g.index m.list in
    span_contains s g.index && ltb p (length m.list) && not (elem p m.replaced)

-- the state behind a glyph that is skipped
abbrev pub skipped : Merging → Merging
skipped m = record { list = m.list; replaced = m.replaced; owed = 0; next = 0 }

-- the glyph replaces the first of its byte index, or is skipped
unfoldable pub replace_first : Span → Glyph → Merging → Outcome Merging
replace_first s g m = cond (may_replace s g m) (replace g (place_of g.index m.list) m) (given (skipped m))

-- the next glyph of the span
unfoldable pub merge_glyph : Span → Outcome Merging → Glyph → Outcome Merging
merge_glyph s o g = and_then o (λ (m : Merging). cond (ltb 0 m.owed) (insert_next g m) (replace_first s g m))

-- the list behind the span's last glyph
unfoldable pub merge_done : Outcome Merging → Outcome (List Glyph)
merge_done o = and_then o (λ (m : Merging). given m.list)

-- the next span: while the list is empty, the span's whole glyph list becomes it
unfoldable pub merge_span : Outcome (List Glyph) → SpanParts → Outcome (List Glyph)
merge_span (refused n) s = refused n
merge_span (given []) s = given s.glyphs
merge_span (given (g ∷ gs)) s = merge_done (foldl (merge_glyph s.span) (given (span_begun (g ∷ gs))) s.glyphs)

-- the merged list, or 7 or 8, whichever the merge meets first
unfoldable pub merge_glyphs : List SpanParts → Outcome (List Glyph)
merge_glyphs parts = foldl merge_span (given []) parts
