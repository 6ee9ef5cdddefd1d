-- Step 6 of one span, case by case. Assumes nothing.
use Prim.Native.Nat.{ℕ}
use mathlib.Core.Path.{◌≡◌, refl}
use mathlib.Core.Bool.{Bool, true, false}
use mathlib.Core.List.{List, [], ◌∷◌, foldl}
use native.Mathlib.Omega.{arith}
use lib.ListN.{length}
use lib.Ieee.{lt}
use borrow.Author.Tests.{ne_eqb}
use Rattle.spec.specs.Outcome.{refused, given}
use Rattle.spec.specs.Lists.{modify, all, get_map_or}
use Rattle.spec.specs.Single.{+0, ◌/ᶠ◌, is_zero, thousandth}
use Rattle.spec.specs.declared.Span.{Span}
use Rattle.spec.specs.declared.Cluster.{Cluster}
use Rattle.spec.specs.LengthAdjust.{cluster_indexes, sum_at, spacing_factor, taken_of, stretched_by, adjust_spacing_of, width_of, scaled_by, adjust_glyphs_of, adjust_span}
use Rattle.spec.specs.ClusterParts.{with_scale}
use Rattle.spec.specs.Cluster.{rounded}
use Rattle.spec.specs.Arithmetic.{indexes}
use Rattle.spec.specs.Looked.{bytes_looked, span_looked}
use Rattle.length_adjust.specs.Sums.{taken_at}

module _ (s : Span) (cs : List Cluster) where
  -- ---- which way the span goes

  pub span-free : (s.fixed ≡ 1 → ⊥) → adjust_span (given cs) s ≡ given cs
  unfolding adjust_span
  span-free h = rw (ne_eqb s.fixed 1 h)

  pub span-scaled : s.fixed ≡ 1 → s.adjust ≡ 1 → adjust_span (given cs) s ≡ adjust_glyphs_of s cs (cluster_indexes rounded s cs)
  unfolding adjust_span
  span-scaled h a = rw (h, a)

  pub span-spaced : s.fixed ≡ 1 → (s.adjust ≡ 1 → ⊥) → adjust_span (given cs) s ≡ given (adjust_spacing_of rounded s cs)
  unfolding adjust_span
  span-spaced h a = rw (h, ne_eqb s.adjust 1 a)

  -- ---- the bytes that are looked at

  pub looked-none : (s.fixed ≡ 1 → ⊥) → span_looked (given cs) s ≡ 0
  unfolding span_looked
  looked-none h = rw (ne_eqb s.fixed 1 h)

  pub looked-some : s.fixed ≡ 1 → span_looked (given cs) s ≡ bytes_looked s (indexes rounded cs)
  unfolding span_looked
  looked-some h = rw h

  -- ---- Spacing and the natural length, of the places that take part

  pub spaced-at : (is : List ℕ) → is ≡ cluster_indexes rounded s cs
      → adjust_spacing_of rounded s cs
      ≡ foldl (modify (stretched_by rounded s (spacing_factor rounded s.length (sum_at rounded (taken_of rounded s) cs is) (length is)))) cs is
  unfolding adjust_spacing_of
  spaced-at is e = rw e

  -- ---- SpacingAndGlyphs, of the places `is`

  pub widths-taken : s.adjust ≡ 1 → (is : List ℕ) → taken_at s cs is ≡ record { sum = sum_at rounded width_of cs is; count = length is }
  widths-taken a is = rw a

  pub glyphs-none : (is : List ℕ) → length is ≡ 0 → adjust_glyphs_of s cs is ≡ given cs
  unfolding adjust_glyphs_of
  glyphs-none [] h = refl
  glyphs-none (i ∷ is) h = absurd (omega arith)

  abbrev flat : ℕ → Bool
  flat k = is_zero (get_map_or +0 width_of cs k)

  pub glyphs-refused : (is : List ℕ) → (length is ≡ 0 → ⊥) → all flat is ≡ true → adjust_glyphs_of s cs is ≡ refused 9
  unfolding adjust_glyphs_of
  glyphs-refused [] h z = absurd (h refl)
  glyphs-refused (i ∷ is) h z = rw z

  pub glyphs-skipped : (is : List ℕ) → (length is ≡ 0 → ⊥) → all flat is ≡ false → lt (s.length /ᶠ sum_at rounded width_of cs is) thousandth ≡ true
      → adjust_glyphs_of s cs is ≡ given cs
  unfolding adjust_glyphs_of scaled_by
  glyphs-skipped [] h z f = absurd (h refl)
  glyphs-skipped (i ∷ is) h z f = rw (z, f)

  pub glyphs-scaled : (is : List ℕ) → (length is ≡ 0 → ⊥) → all flat is ≡ false → lt (s.length /ᶠ sum_at rounded width_of cs is) thousandth ≡ false
      → adjust_glyphs_of s cs is ≡ given (foldl (modify (with_scale (s.length /ᶠ sum_at rounded width_of cs is))) cs is)
  unfolding adjust_glyphs_of scaled_by
  glyphs-scaled [] h z f = absurd (h refl)
  glyphs-scaled (i ∷ is) h z f = rw (z, f)
