-- Step 6: text length, by Spacing, by SpacingAndGlyphs or by the natural length. Definitions only.
use Rattle.std.specs.Prelude.{ℕ, ◌+◌, ◌-◌, not, cond, ◌&&◌, length, ltb, eqb, Float}
use mathlib.Core.List.{List, [], ◌∷◌, foldl}
use Rattle.std.specs.Float.Ieee.{lt}
use Rattle.spec.specs.Outcome.{Outcome, refused, given}
use Rattle.spec.specs.Lists.{all, elem, modify, get_map_or}
use Rattle.spec.specs.Single.{◌/ᶠ◌, +0, thousandth, is_zero}
use Rattle.spec.specs.Job.{Span, adjust_spacing_and_glyphs, adjust_natural, has_length}
use Rattle.spec.specs.Merge.{span_contains}
use Rattle.spec.specs.Arithmetic.{Arithmetic, indexes}
use Rattle.spec.specs.ClusterParts.{with_scale}
use Rattle.spec.specs.Cluster.{Cluster, rounded}

-- ---- the clusters that take part

-- their places, from their byte indexes: those that the span covers, and of one byte index only the first.
-- `seen` has the byte indexes before, and the first of the rest stands at place k
unfoldable pub places_from : Span → List ℕ → ℕ → List ℕ → List ℕ
places_from s seen k [] = []
places_from s seen k (i ∷ is) =
    let rest = places_from s (i ∷ seen) (k + 1) is in
    cond (span_contains s i && not (elem i seen)) (k ∷ rest) rest

module _ (K : Arithmetic) where
  open K use {Num, of_float, zero, ◌⊕◌, ◌⊖◌, ◌⊘◌, Cluster, width, advance, with_spacing}

  infixl 75 ◌⊕◌ ◌⊖◌
  infixl 80 ◌⊘◌
  -- the Rust's cluster_indexes
  abbrev pub cluster_indexes : Span → List Cluster → List ℕ
  cluster_indexes s cs = places_from s [] 0 (indexes K cs)

  -- ---- a number of each cluster, added up over the places in order
  abbrev pub sum_at : (Cluster → Num) → List Cluster → List ℕ → Num
  sum_at f cs is = foldl (λ (w : Num) (i : ℕ). w ⊕ get_map_or zero f cs i) zero is

  -- ---- what each of n clusters gets of the target: (target − sum) ÷ (n − 1), or 0 for one cluster
  unfoldable pub spacing_factor : Float → Num → ℕ → Num
  spacing_factor target sum n = cond (ltb 1 n) ((of_float target ⊖ sum) ⊘ (n - 1)) zero

  -- ---- the number of a cluster that is brought to the length: by the natural length its advance, with the spacing in it, and else its width
  abbrev pub taken_of : Span → Cluster → Num
  taken_of s c = cond (eqb s.adjust adjust_natural) (advance c) (width c)

  -- ---- the advance becomes that number and the factor, which is kept as length spacing
  abbrev pub stretched_by : Span → Num → Cluster → Cluster
  stretched_by s factor c = with_spacing (taken_of s c ⊕ factor) factor c

  unfoldable pub adjust_spacing_of : Span → List Cluster → List Cluster
  adjust_spacing_of s cs =
      let is = cluster_indexes s cs in
      let factor = spacing_factor s.length (sum_at (taken_of s) cs is) (length is) in
      foldl (modify (stretched_by s factor)) cs is

-- ---- SpacingAndGlyphs, and the spans in order: clusters of the rounded layout

abbrev pub width_of : Cluster → Float
width_of c = c.width

-- SpacingAndGlyphs: the factor is target ÷ widths; below 0.001 it is skipped
unfoldable pub scaled_by : Float → List Cluster → List ℕ → List Cluster
scaled_by factor cs is = cond (lt factor thousandth) cs (foldl (modify (with_scale factor)) cs is)

-- 9 where clusters take part and their widths are all zero
unfoldable pub adjust_glyphs_of : Span → List Cluster → List ℕ → Outcome (List Cluster)
adjust_glyphs_of s cs [] = given cs
adjust_glyphs_of s cs (i ∷ is) =
    cond (all (λ (k : ℕ). is_zero (get_map_or +0 width_of cs k)) (i ∷ is)) (refused 9)
    (given (scaled_by (s.length /ᶠ sum_at rounded width_of cs (i ∷ is)) cs (i ∷ is)))

-- the next span, which may have no text length
unfoldable pub adjust_span : Outcome (List Cluster) → Span → Outcome (List Cluster)
adjust_span (refused n) s = refused n
adjust_span (given cs) s =
    cond (has_length s)
    (cond (eqb s.adjust adjust_spacing_and_glyphs) (adjust_glyphs_of s cs (cluster_indexes rounded s cs)) (given (adjust_spacing_of rounded s cs)))
    (given cs)

unfoldable pub apply_length_adjust : List Span → List Cluster → Outcome (List Cluster)
apply_length_adjust spans cs = foldl adjust_span (given cs) spans
