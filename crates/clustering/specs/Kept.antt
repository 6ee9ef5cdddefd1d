-- What is kept of a cluster for the next: the measures of its span and of its first glyph's font. Definitions only.
use Rattle.std.specs.Prelude.{ℕ, ◌≡◌, List, Float, Option, IfSome}
use Rattle.spec.specs.declared.Font.{Font}
use Rattle.spec.specs.Single.{◌/ᶠ◌, of_nat}
use Rattle.spec.specs.Job.{font_at, span_at}
use Rattle.spec.specs.Baseline.{ascent_of, descent_of}
use Rattle.job_rows.specs.Rows.{fonts_in, spans_in}
use Rattle.clustering.specs.declared.measures.Measures.{Measures}

-- those of font f, which has byte b, at the size of span k
abbrev pub measures_at : Font → Float → ℕ → ℕ → Measures
measures_at f size k b =
    record { span = k; font = b; size = size; scale = size /ᶠ of_nat f.units; ascent = ascent_of f size; descent = descent_of f size }

-- of span k and the font of byte b
abbrev pub measures_in : List ℕ → ℕ → List ℕ → ℕ → ℕ → Measures
measures_in s fonts spans k b = measures_at (font_at (fonts_in s fonts) b) (span_at (spans_in s spans) k).size k b

-- the measures that are kept, if any are, are those of their own span and font
abbrev pub Kept : List ℕ → ℕ → List ℕ → Option Measures → Type 0
Kept s fonts spans kept = IfSome kept (λ (m : Measures). m ≡ measures_in s fonts spans m.span m.font)

-- what is kept serves span k and the font of byte b: if it is of these, it is theirs
abbrev pub Serves : List ℕ → ℕ → List ℕ → ℕ → ℕ → Option Measures → Type 0
Serves s fonts spans k b kept = IfSome kept (λ (m : Measures). m.span ≡ k → m.font ≡ b → m ≡ measures_in s fonts spans k b)
