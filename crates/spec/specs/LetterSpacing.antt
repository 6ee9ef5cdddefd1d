-- Step 4: letter spacing, and the clusters that it collapses. Definitions only.
use Rattle.std.specs.Prelude.{ℕ, ◌-◌, Bool, not, cond, List, length, eqb, Float}
use Rattle.spec.specs.Lists.{scan, any}
use Rattle.spec.specs.Single.{is_zero}
use Rattle.spec.specs.Job.{Span, span_at}
use Rattle.spec.specs.Script.{script_supports_letter_spacing}
use Rattle.spec.specs.Arithmetic.{Arithmetic}

module _ (K : Arithmetic) where
  open K use {of_float, ◌⊕◌, Cluster, tag, span, advance, with_advance, collapses, collapse}

  infixl 75 ◌⊕◌
  unfoldable pub collapse_if_empty : Cluster → Cluster
  collapse_if_empty c = cond (collapses c) (collapse c) c

  -- the spacing is added, but not to the last cluster; the last too may collapse
  unfoldable pub letter_spaced : Float → Bool → Cluster → Cluster
  letter_spaced letter last c = collapse_if_empty (cond last c (with_advance (advance c ⊕ of_float letter) c))

  -- the next cluster, of which `left` are still to come, itself counted
  unfoldable pub next_letter_spaced : List Span → ℕ → Cluster → Cluster
  next_letter_spaced spans left c =
      cond (script_supports_letter_spacing (tag c)) (letter_spaced (span_at spans (span c)).letter (eqb left 1) c) c

  -- if any span's letter spacing is not zero
  unfoldable pub apply_letter_spacing : List Span → List Cluster → List Cluster
  apply_letter_spacing spans cs =
      cond (any (λ (s : Span). not (is_zero s.letter)) spans)
      (scan (λ (left : ℕ) (c : Cluster). left - 1) (next_letter_spaced spans) (length cs) cs) cs
