-- The exact steps keep each cluster's group: its byte index and covering span, and its glyphs. Assumes nothing.
use Prim.Native.Nat.{ℕ, ◌+◌, ◌-◌}
use mathlib.Core.Path.{◌≡◌, refl, ap, ap₂, ◌∙◌}
use mathlib.Core.Bool.{Bool, true, false, not, cond}
use mathlib.Core.List.{List, [], ◌∷◌, map, foldl, zip_with}
use native.Mathlib.Omega.{arith}
use lib.ListN.{length}
use lib.Dec.{eqb}
use lib.Ieee.{Float}
use Rattle.float_error.specs.Fraction.{◌+ᵠ◌, value_of}
use Rattle.spec.specs.declared.Font.{Font}
use Rattle.spec.specs.declared.Span.{Span}
use Rattle.spec.specs.declared.Cluster.{Cluster}
use Rattle.spec.specs.Lists.{scan, any, All}
use Rattle.spec.specs.Single.{is_zero}
use Rattle.spec.specs.Job.{span_at}
use Rattle.spec.specs.Group.{Group}
use Rattle.spec.specs.Script.{script_supports_letter_spacing, is_word_separator_at}
use Rattle.spec.specs.LetterSpacing.{collapse_if_empty, letter_spaced, next_letter_spaced, apply_letter_spacing}
use Rattle.spec.specs.WordSpacing.{word_spaced, apply_word_spacing}
use Rattle.spec.specs.Exact.{ExactCluster, exact, exact_cluster, glyph_total}
use Rattle.spec_laws.proofs.GlyphsShared.{group_glyphs}
use Rattle.error_bound.proofs.Total.{groups_of}

zip-groups : (fonts : List Font) (spans : List Span) (gs : List Group) (cs : List Cluster) → length cs ≡ length gs → groups_of (zip_with (exact_cluster fonts spans) gs cs) ≡ gs
unfolding zip_with exact_cluster
zip-groups fonts spans [] cs e = refl
zip-groups fonts spans (g ∷ gs) [] e = let z : ⊥ = omega arith in absurd z
zip-groups fonts spans (g ∷ gs) (c ∷ cs) e = ap (λ (l : List Group). g ∷ l) (zip-groups fonts spans gs cs (omega arith))

either-group : (b : Bool) (p q : ExactCluster) (g : Group) → p.group ≡ g → q.group ≡ g → (cond b p q).group ≡ g
either-group true p q g e f = e
either-group false p q g e f = f

settled-group : (q : ExactCluster) → (collapse_if_empty exact q).group ≡ q.group
unfolding collapse_if_empty
settled-group q = either-group q.collapsed (exact.collapse q) q q.group refl refl

spaced-group : (letter : Float) (last : Bool) (q : ExactCluster) → (letter_spaced exact letter last q).group ≡ q.group
unfolding letter_spaced
spaced-group letter last q =
    settled-group (cond last q (exact.with_advance (q.advance +ᵠ value_of letter) q)) ∙ either-group last q (exact.with_advance (q.advance +ᵠ value_of letter) q) q.group refl refl

letter-group : (spans : List Span) (left : ℕ) (q : ExactCluster) → (next_letter_spaced exact spans left q).group ≡ q.group
unfolding next_letter_spaced
letter-group spans left q =
    either-group (script_supports_letter_spacing (exact.tag q)) (letter_spaced exact (span_at spans (exact.span q)).letter (eqb left 1) q) q q.group
    (spaced-group (span_at spans (exact.span q)).letter (eqb left 1) q) refl

word-group : (text : List ℕ) (spans : List Span) (q : ExactCluster) → (word_spaced exact text spans q).group ≡ q.group
unfolding word_spaced
word-group text spans q =
    either-group (is_word_separator_at text (exact.index q)) (exact.with_advance (q.advance +ᵠ value_of (span_at spans (exact.span q)).word) q) q q.group refl refl

scan-groups : {S : Type 0} (next : S → ExactCluster → S) (f : S → ExactCluster → ExactCluster) → ((s : S) (q : ExactCluster) → (f s q).group ≡ q.group) → (s : S) (qs : List ExactCluster) → groups_of (scan next f s qs) ≡ groups_of qs
unfolding scan
scan-groups next f h s [] = refl
scan-groups next f h s (q ∷ qs) = ap₂ ◌∷◌ (h s q) (scan-groups next f h (next s q) qs)

map-groups : (f : ExactCluster → ExactCluster) → ((q : ExactCluster) → (f q).group ≡ q.group) → (qs : List ExactCluster) → groups_of (map f qs) ≡ groups_of qs
map-groups f h [] = refl
map-groups f h (q ∷ qs) = ap₂ ◌∷◌ (h q) (map-groups f h qs)

cond-groups : (b : Bool) (ps qs : List ExactCluster) (gs : List Group) → groups_of ps ≡ gs → groups_of qs ≡ gs → groups_of (cond b ps qs) ≡ gs
cond-groups true ps qs gs e f = e
cond-groups false ps qs gs e f = f

-- steps 2, 4 and 5
pub spaced-groups : (fonts : List Font) (spans : List Span) (text : List ℕ) (gs : List Group) (cs : List Cluster) → length cs ≡ length gs
    → groups_of (apply_word_spacing exact text spans (apply_letter_spacing exact spans (zip_with (exact_cluster fonts spans) gs cs))) ≡ gs
unfolding apply_word_spacing apply_letter_spacing
spaced-groups fonts spans text gs cs e =
    cond-groups (any (λ (s : Span). not (is_zero s.word)) spans) _ _ gs
    (map-groups (word_spaced exact text spans) (word-group text spans) (apply_letter_spacing exact spans (zip_with (exact_cluster fonts spans) gs cs)) ∙ lettered) lettered
  where
    formed : List ExactCluster
    formed = zip_with (exact_cluster fonts spans) gs cs

    lettered : groups_of (cond (any (λ (s : Span). not (is_zero s.letter)) spans) (scan (λ (left : ℕ) (c : ExactCluster). left - 1) (next_letter_spaced exact spans) (length formed) formed) formed) ≡ gs
    lettered =
        cond-groups (any (λ (s : Span). not (is_zero s.letter)) spans) _ formed gs
        (scan-groups (λ (left : ℕ) (c : ExactCluster). left - 1) (next_letter_spaced exact spans) (letter-group spans) (length formed) formed ∙ zip-groups fonts spans gs cs e) (zip-groups fonts spans gs cs e)

pub formed-groups : (fonts : List Font) (spans : List Span) (gs : List Group) (cs : List Cluster) → length cs ≡ length gs → groups_of (zip_with (exact_cluster fonts spans) gs cs) ≡ gs
formed-groups = zip-groups

-- g
total-from : (qs : List ExactCluster) (n : ℕ) → foldl (λ (n : ℕ) (c : ExactCluster). n + length c.group.glyphs) n qs ≡ n + group_glyphs (groups_of qs)
total-from [] n = omega arith
total-from (q ∷ qs) n = omega (arith, total-from qs (n + length q.group.glyphs))

pub glyph-total : (qs : List ExactCluster) → glyph_total qs ≡ group_glyphs (groups_of qs)
unfolding glyph_total
glyph-total qs = total-from qs 0 ∙ omega arith

-- what holds of the groups holds of the clusters' groups
pub all-groups : (P : Group → Type 0) (qs : List ExactCluster) → All P (groups_of qs) → All (λ q. P q.group) qs
all-groups P [] All.none = All.none
all-groups P (q ∷ qs) (All.more p ps) = All.more p (all-groups P qs ps)
