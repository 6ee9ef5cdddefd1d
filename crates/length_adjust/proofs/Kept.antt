-- Step 6 leaves each cluster its byte index, and so their text order; and it goes span by span. Assumes nothing.
use Prim.Native.Nat.{ℕ, zero, suc, ◌+◌, ◌≤◌, ◌<◌}
use mathlib.Core.Path.{◌≡◌, refl, sym, ap, ◌∙◌}
use mathlib.Core.List.{List, [], ◌∷◌, map, foldl}
use native.Mathlib.Numerals.{add-one}
use native.Mathlib.Omega.{arith}
use Rattle.std.specs.Prelude.{Ok, Err}
use Rattle.std.specs.Result.{is_err}
use Rattle.std.specs.declared.result.Result.{Result}
use Rattle.std.proofs.lemmas.Bool.{false≢true}
use Rattle.std.proofs.lemmas.List.{get_or-map}
use mathlib.Core.Bool.{true, false}
use lib.ListN.{length, get_or, drop, length-map, drop_of_length-le}
use lib.Seq.{drop-cons}
use lib.Dec.{eqb}
use lib.Ieee.{lt}
use Rattle.spec.specs.Outcome.{Outcome, refused, given, IfGiven}
use Rattle.spec.specs.Lists.{modify, all, get_map_or}
use Rattle.spec.specs.Single.{+0, is_zero, thousandth, ◌/ᶠ◌}
use Rattle.spec.specs.declared.Span.{Span}
use Rattle.spec.specs.declared.Cluster.{Cluster}
use Rattle.spec.specs.Arithmetic.{indexes}
use Rattle.spec.specs.declared.Refusal.{Refusal}
use Rattle.spec.specs.Refusal.{refusal_number}
use Rattle.spec.proofs.Loops.{fold-turn}
use Rattle.job_rows.specs.Rows.{spans_in}
use Rattle.length_adjust.specs.Answer.{adjusted_of}
use Rattle.spec.specs.Decode.{span_of}
use Rattle.spec.specs.Job.{blank_span, span_at, has_length, adjust_spacing_and_glyphs}
use Rattle.spec.specs.LengthAdjust.{cluster_indexes, sum_at, spacing_factor, taken_of, stretched_by, adjust_spacing_of, width_of, scaled_by, adjust_glyphs_of, adjust_span, apply_length_adjust}
use Rattle.spec.specs.ClusterParts.{with_scale}
use Rattle.spec.specs.Cluster.{rounded}
use Rattle.spec.specs.Looked.{span_looked, spans_looked}
use Rattle.spec_laws.proofs.All.{fold-keeps, cond-keeps}
use Rattle.spec_laws.proofs.IfGiven.{of-given}

-- what g gives of each element is left as it is where f leaves it at one
modify-keeps : {A B : Type 0} (g : A → B) (f : A → A) → ((x : A) → g (f x) ≡ g x) → (xs : List A) (i : ℕ) → map g (modify f xs i) ≡ map g xs
unfolding modify
modify-keeps g f h [] i = refl
modify-keeps g f h (x ∷ xs) zero = rw (h x)
modify-keeps g f h (x ∷ xs) (suc i) = ap {B = List _} (λ r. g x ∷ r) (modify-keeps g f h xs i)

abbrev index_of : Cluster → ℕ
index_of c = c.index

module _ (is : List ℕ) where
  -- the byte indexes are those
  abbrev Kept : List Cluster → Type 0
  Kept cs = indexes rounded cs ≡ is

  at_places : (f : Cluster → Cluster) → ((c : Cluster) → (f c).index ≡ c.index) → (cs : List Cluster) → Kept cs → (places : List ℕ) → Kept (foldl (modify f) cs places)
  at_places f h cs k places = fold-keeps Kept (modify f) (λ ds i q. modify-keeps index_of f h ds i ∙ q) cs k places

  spacing-keeps : (s : Span) (cs : List Cluster) → Kept cs → Kept (adjust_spacing_of rounded s cs)
  unfolding adjust_spacing_of
  spacing-keeps s cs k =
      let places = cluster_indexes rounded s cs in
      at_places (stretched_by rounded s (spacing_factor rounded s.length (sum_at rounded (taken_of rounded s) cs places) (length places))) (λ c. refl) cs k places

  glyphs-keep : (s : Span) (cs : List Cluster) → Kept cs → (places : List ℕ) → IfGiven Kept (adjust_glyphs_of s cs places)
  unfolding adjust_glyphs_of scaled_by
  glyphs-keep s cs k [] = k
  glyphs-keep s cs k (i ∷ places) =
      let factor = s.length /ᶠ sum_at rounded width_of cs (i ∷ places) in
      cond-keeps (IfGiven Kept) (all (λ (j : ℕ). is_zero (get_map_or +0 width_of cs j)) (i ∷ places)) tt
      (cond-keeps Kept (lt factor thousandth) k (at_places (with_scale factor) (λ c. refl) cs k (i ∷ places)))

  span-keeps : (o : Outcome (List Cluster)) (s : Span) → IfGiven Kept o → IfGiven Kept (adjust_span o s)
  unfolding adjust_span
  span-keeps (refused n) s k = tt
  span-keeps (given cs) s k =
      cond-keeps (IfGiven Kept) (has_length s)
      (cond-keeps (IfGiven Kept) (eqb s.adjust adjust_spacing_and_glyphs) (glyphs-keep s cs k (cluster_indexes rounded s cs)) (spacing-keeps s cs k))
      k

-- ---- of one span, and of all

span-indexes : (s : Span) (cs ds : List Cluster) → adjust_span (given cs) s ≡ given ds → indexes rounded ds ≡ indexes rounded cs
span-indexes s cs ds e = let is = indexes rounded cs in of-given (Kept is) (adjust_span (given cs) s) ds (span-keeps is (given cs) s refl) e

pub adjusted-order : (spans : List Span) (cs ds : List Cluster) → given ds ≡ apply_length_adjust spans cs → indexes rounded ds ≡ indexes rounded cs
unfolding apply_length_adjust
adjusted-order spans cs ds e =
    let is = indexes rounded cs in
    of-given (Kept is) (apply_length_adjust spans cs) ds (fold-keeps (IfGiven (Kept is)) adjust_span (span-keeps is) (given cs) refl spans) (sym e)

-- ---- span by span: what comes of the clusters, and the bytes that are looked at

pub spans-length : (s spans : List ℕ) → length (spans_in s spans) ≡ length spans
unfolding spans_in
spans-length s spans = length-map spans _

-- the span that stands at a place, by its number
pub span-here : (s spans : List ℕ) (i : ℕ) → i < length spans → span_of (drop (get_or spans i 0) s) ≡ span_at (spans_in s spans) i
unfolding spans_in
span-here s spans i h = sym (get_or-map _ spans i 0 blank_span h)

-- a refusal stays
refused-stays : (n : ℕ) (spans : List Span) → foldl adjust_span (refused n) spans ≡ refused n
unfolding adjust_span
refused-stays n [] = refl
refused-stays n (s ∷ spans) = refused-stays n spans

refused-looks : (n : ℕ) (spans : List Span) → spans_looked (refused n) spans ≡ 0
unfolding spans_looked span_looked adjust_span
refused-looks n [] = refl
refused-looks n (s ∷ spans) = omega (arith, refused-looks n spans)

module _ (cs ds : List Cluster) (spans : List Span) (i : ℕ) (h : i < length spans) where
  looked-turn : span_looked (given cs) (span_at spans i) + spans_looked (adjust_span (given cs) (span_at spans i)) (drop (i + 1) spans) ≡ spans_looked (given cs) (drop i spans)
  unfolding spans_looked
  looked-turn = rw (add-one, drop-cons spans i blank_span h)

  -- the next span is refused
  pub turn-refused : (r : Result (Unit {0}) Refusal) → is_err r ≡ true → adjusted_of r ds ≡ adjust_span (given cs) (span_at spans i)
      → (adjusted_of r ds ≡ foldl adjust_span (given cs) (drop i spans)) × (span_looked (given cs) (span_at spans i) ≡ spans_looked (given cs) (drop i spans))
  unfolding adjusted_of
  turn-refused (Ok done) e q = absurd (false≢true e)
  turn-refused (Err r) e q =
      let n = refusal_number r in
      let then = drop (i + 1) spans in
      let none : spans_looked (adjust_span (given cs) (span_at spans i)) then ≡ 0 = rw (← q) (refused-looks n then) in
      (sym (refused-stays n then) ∙ ap (λ (o : Outcome (List Cluster)). foldl adjust_span o then) q ∙ fold-turn adjust_span (given cs) spans i blank_span h, omega (arith, looked-turn, none))

  -- or it is not: then the walk goes on with ds, which keep their byte indexes
  pub turn-done : (r : Result (Unit {0}) Refusal) → is_err r ≡ false → adjusted_of r ds ≡ adjust_span (given cs) (span_at spans i)
      → (indexes rounded ds ≡ indexes rounded cs) × (foldl adjust_span (given ds) (drop (i + 1) spans) ≡ foldl adjust_span (given cs) (drop i spans))
      × (span_looked (given cs) (span_at spans i) + spans_looked (given ds) (drop (i + 1) spans) ≡ spans_looked (given cs) (drop i spans))
  unfolding adjusted_of
  turn-done (Err r) e q = absurd (false≢true (sym e))
  turn-done (Ok done) e q = (
    span-indexes (span_at spans i) cs ds (sym q),
    ap (λ (o : Outcome (List Cluster)). foldl adjust_span o (drop (i + 1) spans)) q ∙ fold-turn adjust_span (given cs) spans i blank_span h,
    rw q looked-turn,
  )

pub looked-done : (o : Outcome (List Cluster)) (spans : List Span) (i : ℕ) → length spans ≤ i → spans_looked o (drop i spans) ≡ 0
unfolding spans_looked
looked-done o spans i h = rw (drop_of_length-le spans h)
