-- The measures of a span and a font are those of their own span and font. Assumes nothing.
use Prim.Native.Nat.{ℕ}
use mathlib.Core.Path.{◌≡◌}
use mathlib.Core.List.{List}
use Rattle.spec.specs.Job.{font_at, span_at}
use Rattle.job_rows.specs.Rows.{fonts_in, spans_in}
use Rattle.clustering.specs.declared.measures.Measures.{Measures}
use Rattle.clustering.specs.Kept.{measures_at, measures_in}

module _ (s : List ℕ) (fonts : ℕ) (spans : List ℕ) {k b : ℕ} {m : Measures} (e : m ≡ measures_in s fonts spans k b) where
  pub kept : m ≡ measures_in s fonts spans m.span m.font
  kept = rw e

  pub of-font : m ≡ measures_at (font_at (fonts_in s fonts) b) m.size m.span b
  of-font = rw e

  pub of-span : m.size ≡ (span_at (spans_in s spans) m.span).size
  of-span = rw e
