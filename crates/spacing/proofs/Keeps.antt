-- What steps 3 to 5 leave as it was: of the clusters all that no step sets, so their byte indexes. How many there are: `length-writing` and
-- `length-letter` of laws, and `length-word`. Assumes nothing.
use Prim.Native.Nat.{ℕ, ◌-◌}
use mathlib.Core.Path.{◌≡◌, refl, ap₂, ◌∙◌}
use mathlib.Core.Bool.{Bool, true, false, not, cond}
use mathlib.Core.List.{List, [], ◌∷◌, map}
use lib.ListN.{length, length-map}
use lib.Dec.{eqb}
use lib.Ieee.{Float}
use Rattle.spec.specs.Lists.{scan, any}
use Rattle.spec.specs.Single.{is_zero, is_positive}
use Rattle.spec.specs.declared.Span.{Span}
use Rattle.spec.specs.declared.Cluster.{Cluster}
use Rattle.spec.specs.Job.{top_to_bottom}
use Rattle.spec.specs.Script.{script_supports_letter_spacing, is_word_separator_at}
use Rattle.spec.specs.Arithmetic.{Arithmetic, indexes}
use Rattle.spec.specs.ClusterParts.{with_height, collapsed}
use Rattle.spec.specs.Cluster.{rounded}
use Rattle.spec.specs.WritingMode.{vertical_metrics, apply_writing_mode}
use Rattle.spec.specs.LetterSpacing.{collapse_if_empty, letter_spaced, next_letter_spaced, apply_letter_spacing}
use Rattle.spec.specs.WordSpacing.{word_spaced, apply_word_spacing}
use Rattle.spec_laws.proofs.AsMany.{length-cond}

-- ---- the clusters

module _ {A B : Type 0} (g : A → B) where
  cond-kept : (b : Bool) (x y : A) (z : B) → g x ≡ z → g y ≡ z → g (cond b x y) ≡ z
  cond-kept true x y z p q = p
  cond-kept false x y z p q = q

  map-kept : (f : A → A) → ((x : A) → g (f x) ≡ g x) → (xs : List A) → map g (map f xs) ≡ map g xs
  map-kept f h [] = refl
  map-kept f h (x ∷ xs) = ap₂ ◌∷◌ (h x) (map-kept f h xs)

  scan-kept : {S : Type 0} (next : S → A → S) (f : S → A → A) → ((s : S) (x : A) → g (f s x) ≡ g x) → (s : S) (xs : List A) → map g (scan next f s xs) ≡ map g xs
  unfolding scan
  scan-kept next f h s [] = refl
  scan-kept next f h s (x ∷ xs) = ap₂ ◌∷◌ (h s x) (scan-kept next f h (next s x) xs)

module _ {B : Type 0} (g : Cluster → B) where
  -- what the heights have no part in
  pub writing-keeps : ((ascent descent nudge : Float) (c : Cluster) → g (with_height ascent descent nudge c) ≡ g c)
      → (mode : ℕ) (cs : List Cluster) → map g (apply_writing_mode mode cs) ≡ map g cs
  unfolding apply_writing_mode vertical_metrics
  writing-keeps h mode cs =
      cond-kept (map g) (eqb mode top_to_bottom) (map vertical_metrics cs) cs (map g cs)
      (map-kept g vertical_metrics (λ c. cond-kept g c.upright _ _ (g c) (h _ _ _ c) (h _ _ _ c)) cs) refl

  module _ (advance : (a : Float) (c : Cluster) → g (rounded.with_advance a c) ≡ g c) where
    module _ (h : (c : Cluster) → g (collapsed c) ≡ g c) (spans : List Span) where
      settles : (c : Cluster) → g (collapse_if_empty rounded c) ≡ g c
      unfolding collapse_if_empty
      settles c = cond-kept g (not (is_positive c.advance)) (collapsed c) c (g c) (h c) refl

      spaces : (letter : Float) (last : Bool) (c : Cluster) → g (letter_spaced rounded letter last c) ≡ g c
      unfolding letter_spaced
      spaces letter last c = settles _ ∙ cond-kept g last c _ (g c) refl (advance _ c)

      next : (left : ℕ) (c : Cluster) → g (next_letter_spaced rounded spans left c) ≡ g c
      unfolding next_letter_spaced
      next left c = cond-kept g (script_supports_letter_spacing c.tag) _ c (g c) (spaces _ _ c) refl

      -- what neither the advance nor a collapse has part in
      pub letter-keeps : (cs : List Cluster) → map g (apply_letter_spacing rounded spans cs) ≡ map g cs
      unfolding apply_letter_spacing
      letter-keeps cs =
          cond-kept (map g) (any (λ (s : Span). not (is_zero s.letter)) spans) _ cs (map g cs)
          (scan-kept g (λ (left : ℕ) (c : Cluster). left - 1) (next_letter_spaced rounded spans) next (length cs) cs) refl

    -- what the advance has no part in
    pub word_keeps : (text : List ℕ) (spans : List Span) (cs : List Cluster) → map g (apply_word_spacing rounded text spans cs) ≡ map g cs
    unfolding apply_word_spacing word_spaced
    word_keeps text spans cs =
        cond-kept (map g) (any (λ (s : Span). not (is_zero s.word)) spans) _ cs (map g cs)
        (map-kept g (word_spaced rounded text spans) (λ c. cond-kept g (is_word_separator_at text c.index) _ c (g c) (advance _ c) refl) cs) refl

-- ---- byte indexes

pub writing-indexes : (mode : ℕ) (cs : List Cluster) → indexes rounded (apply_writing_mode mode cs) ≡ indexes rounded cs
writing-indexes = writing-keeps rounded.index (λ ascent descent nudge c. refl)

pub letter-indexes : (spans : List Span) (cs : List Cluster) → indexes rounded (apply_letter_spacing rounded spans cs) ≡ indexes rounded cs
letter-indexes = letter-keeps rounded.index (λ a c. refl) (λ c. refl)

pub word-indexes : (text : List ℕ) (spans : List Span) (cs : List Cluster) → indexes rounded (apply_word_spacing rounded text spans cs) ≡ indexes rounded cs
word-indexes = word_keeps rounded.index (λ a c. refl)

-- ---- how many

pub length-word : (K : Arithmetic) (text : List ℕ) (spans : List Span) (cs : List K.Cluster) → length (apply_word_spacing K text spans cs) ≡ length cs
unfolding apply_word_spacing
length-word K text spans cs =
    length-cond (any (λ (s : Span). not (is_zero s.word)) spans) _ _ (length cs) (length-map cs (word_spaced K text spans)) refl
