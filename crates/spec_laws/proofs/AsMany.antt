-- Steps 2 to 4 make one cluster of each group, so that the exact layout has a cluster for each too. Assumes nothing.
use Prim.Native.Nat.{ℕ, suc, ◌-◌}
use mathlib.Core.Path.{◌≡◌, refl, ap, ◌∙◌}
use mathlib.Core.Bool.{Bool, true, false, not, cond}
use mathlib.Core.List.{List, [], ◌∷◌, map}
use lib.ListN.{length, length-map}
use lib.Dec.{eqb}
use Rattle.spec.specs.Lists.{scan, any}
use Rattle.spec.specs.Single.{is_zero}
use Rattle.spec.specs.declared.Span.{Span}
use Rattle.spec.specs.declared.Glyph.{Glyph}
use Rattle.spec.specs.Job.{Job, Chunk, spans_of, top_to_bottom}
use Rattle.spec.specs.Group.{groups}
use Rattle.spec.specs.Arithmetic.{Arithmetic}
use Rattle.spec.specs.LetterSpacing.{apply_letter_spacing, next_letter_spaced}
use Rattle.spec.specs.declared.Cluster.{Cluster}
use Rattle.spec.specs.Cluster.{rounded, form_glyph_clusters}
use Rattle.spec.specs.WritingMode.{vertical_metrics, apply_writing_mode}
use Rattle.spec.specs.Layout.{letter_spaced_clusters}

pub length-scan : {A S : Type 0} (next : S → A → S) (f : S → A → A) (s : S) (xs : List A) → length (scan next f s xs) ≡ length xs
unfolding scan
length-scan next f s [] = refl
length-scan next f s (x ∷ xs) = ap suc (length-scan next f (next s x) xs)

pub length-cond : {A : Type 0} (b : Bool) (xs ys : List A) (n : ℕ) → length xs ≡ n → length ys ≡ n → length (cond b xs ys) ≡ n
length-cond true xs ys n p q = p
length-cond false xs ys n p q = q

pub length-letter : (K : Arithmetic) (spans : List Span) (cs : List K.Cluster) → length (apply_letter_spacing K spans cs) ≡ length cs
unfolding apply_letter_spacing
length-letter K spans cs =
    length-cond (any (λ (s : Span). not (is_zero s.letter)) spans) _ _ (length cs)
    (length-scan (λ (left : ℕ) (c : K.Cluster). left - 1) (next_letter_spaced K spans) (length cs) cs) refl

pub length-writing : (mode : ℕ) (cs : List Cluster) → length (apply_writing_mode mode cs) ≡ length cs
unfolding apply_writing_mode
length-writing mode cs = length-cond (eqb mode top_to_bottom) (map vertical_metrics cs) cs (length cs) (length-map cs vertical_metrics) refl

pub as_many : (job : Job) (c : Chunk) (gs : List Glyph) → length (letter_spaced_clusters job c gs) ≡ length (groups (spans_of c) gs)
unfolding letter_spaced_clusters
as_many job c gs =
    let formed = map (form_glyph_clusters job.fonts (spans_of c)) (groups (spans_of c) gs) in
    length-letter rounded (spans_of c) (apply_writing_mode job.mode formed) ∙ length-writing job.mode formed
    ∙ length-map (groups (spans_of c) gs) (form_glyph_clusters job.fonts (spans_of c))
