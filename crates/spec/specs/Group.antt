-- Step 2, what it chooses without rounding: neighbours of one byte index, kept if a span covers it. Definitions only.
use Rattle.std.specs.Prelude.{ℕ, ◌+◌, cond, length, ltb, eqb}
use mathlib.Core.List.{List, [], ◌∷◌, foldr}
use Rattle.spec.specs.Lists.{find_idx}
use Rattle.spec.specs.Job.{Glyph, Span}
use Rattle.spec.specs.Merge.{span_contains}

-- the place of the first span that covers byte index i; the number of spans where none does
abbrev pub chunk_span_at : List Span → ℕ → ℕ
chunk_span_at spans i = find_idx (λ (s : Span). span_contains s i) spans

-- a glyph before the runs of neighbours behind it: it joins the first of them where the byte index is the same
unfoldable pub join_run : Glyph → List (List Glyph) → List (List Glyph)
join_run g [] = (g ∷ []) ∷ []
join_run g ([] ∷ runs) = (g ∷ []) ∷ runs
join_run g ((h ∷ hs) ∷ runs) = cond (eqb g.index h.index) ((g ∷ h ∷ hs) ∷ runs) ((g ∷ []) ∷ (h ∷ hs) ∷ runs)

-- the merged list in runs of neighbours of one byte index (`GlyphClusters`)
unfoldable pub glyph_runs : List Glyph → List (List Glyph)
glyph_runs gs = foldr join_run [] gs

-- a cluster's glyphs, which begin with `first` and stand from place `from` of the merged list on, and the place of its covering span
pub record Group : Type 0 where
  pub from : ℕ
  pub first : Glyph
  pub glyphs : List Glyph
  pub span : ℕ

-- the runs that a span covers; the first run stands at place `from`
unfoldable pub covered_runs : List Span → ℕ → List (List Glyph) → List Group
covered_runs spans from [] = []
covered_runs spans from ([] ∷ runs) = covered_runs spans from runs
covered_runs spans from ((g ∷ gs) ∷ runs) =
    let k = chunk_span_at spans g.index in
    let rest = covered_runs spans (from + length (g ∷ gs)) runs in
    cond (ltb k (length spans)) (record { from = from; first = g; glyphs = g ∷ gs; span = k } ∷ rest) rest

unfoldable pub groups : List Span → List Glyph → List Group
groups spans gs = covered_runs spans 0 (glyph_runs gs)
