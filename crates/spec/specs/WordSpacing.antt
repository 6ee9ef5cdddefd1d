-- Step 5: word spacing. Definitions only.
use Rattle.std.specs.Prelude.{ℕ, not, cond, List, map}
use Rattle.spec.specs.Lists.{any}
use Rattle.spec.specs.Single.{is_zero}
use Rattle.spec.specs.Job.{Span, span_at}
use Rattle.spec.specs.Script.{is_word_separator_at}
use Rattle.spec.specs.Arithmetic.{Arithmetic}

module _ (K : Arithmetic) where
  open K use {of_float, ◌⊕◌, Cluster, index, span, advance, with_advance}

  infixl 75 ◌⊕◌
  unfoldable pub word_spaced : List ℕ → List Span → Cluster → Cluster
  word_spaced text spans c =
      cond (is_word_separator_at text (index c)) (with_advance (advance c ⊕ of_float (span_at spans (span c)).word) c) c

  -- if any span's word spacing is not zero
  unfoldable pub apply_word_spacing : List ℕ → List Span → List Cluster → List Cluster
  apply_word_spacing text spans cs = cond (any (λ (s : Span). not (is_zero s.word)) spans) (map (word_spaced text spans) cs) cs
