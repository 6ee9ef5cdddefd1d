-- A lent buffer of three times the job's bytes is never refused with 10, and neither is one of 167,772 bytes. Assumes nothing.
use Prim.Native.Nat.{ℕ, ◌*◌, ◌≤◌}
use mathlib.Core.Path.{◌≡◌, refl}
use mathlib.Core.Bool.{Bool, true, false, cond, not}
use mathlib.Core.List.{List, [], ◌∷◌, foldl}
use native.Mathlib.Nat.{le_trans}
use native.Mathlib.Omega.{arith}
use lib.ListN.{length}
use lib.Dec.{T, leb, ltb, eqb, le→leb}
use Rattle.spec_laws.proofs.All.{all_of, fold-keeps, cond-keeps}
use Rattle.spec_laws.proofs.Outcomes.{first-keeps}
use Rattle.spec_laws.proofs.AnswerBound.{answer-bound, answer-small}
use Rattle.spec.specs.Outcome.{Outcome, refused, given, and_then, Check, first_failing}
use Rattle.spec.specs.Lists.{all, get_map_or}
use Rattle.spec.specs.Single.{+0, is_zero}
use Rattle.spec.specs.declared.Glyph.{Glyph}
use Rattle.spec.specs.declared.Span.{Span}
use Rattle.spec.specs.declared.Cluster.{Cluster}
use Rattle.spec.specs.Job.{Job, Chunk, SpanParts, limits, spans_of, has_length, adjust_spacing_and_glyphs}
use Rattle.spec.specs.Check.{checks, checked}
use Rattle.spec.specs.Merge.{Merging, span_begun, may_replace, replace_longer, replace, insert_next, replace_first, merge_glyph, merge_done, merge_span, merge_glyphs}
use Rattle.spec.specs.LengthAdjust.{width_of, adjust_glyphs_of, adjust_span, apply_length_adjust}
use Rattle.spec.specs.Answer.{ChunkRow, answer_bytes}
use Rattle.spec.specs.Layout.{adjusted_clusters, Progress, beginning, layout_chunk, layout_job, layout_rows, fitting, layout_of, number_of, length_of}

-- ---- the job's own bytes earn any number but 10

abbrev Not10 : {A : Type 0} → Outcome A → Type 0
Not10 (refused n) = T (not (eqb n 10))
Not10 (given a) = Unit {0}

then-not-10 : {A B : Type 0} (o : Outcome A) (f : A → Outcome B) → Not10 o → ((a : A) → Not10 (f a)) → Not10 (and_then o f)
unfolding and_then
then-not-10 (refused n) f h k = h
then-not-10 (given a) f h k = k a

-- the checks
checked-not-10 : (bs : List ℕ) → Not10 (checked bs)
unfolding checked checks all
checked-not-10 bs =
    then-not-10 (first_failing checks bs) _
    (first-keeps Not10 checks bs tt (all_of (λ (c : Check (List ℕ)). not (eqb c.number 10)) checks tt))
    (λ passed. tt)

-- 7 and 8
longer-not-10 : (g : Glyph) (p : ℕ) (m : Merging) → Not10 (replace_longer g p m)
unfolding replace_longer
longer-not-10 g p m = cond-keeps Not10 (leb _ (length m.list)) tt tt

glyph-not-10 : (s : Span) (o : Outcome Merging) (g : Glyph) → Not10 o → Not10 (merge_glyph s o g)
unfolding merge_glyph insert_next replace_first replace
glyph-not-10 s o g h =
    then-not-10 o _ h
    (λ m. cond-keeps Not10 (ltb 0 m.owed) (cond-keeps Not10 (ltb (length m.list) limits.merged) tt tt)
    (cond-keeps Not10 (may_replace s g m) (cond-keeps Not10 (ltb _ g.length) (longer-not-10 g _ m) tt) tt))

done-not-10 : (o : Outcome Merging) → Not10 o → Not10 (merge_done o)
unfolding merge_done
done-not-10 o h = then-not-10 o _ h (λ m. tt)

span-not-10 : (o : Outcome (List Glyph)) (p : SpanParts) → Not10 o → Not10 (merge_span o p)
unfolding merge_span
span-not-10 (refused n) p h = h
span-not-10 (given []) p h = tt
span-not-10 (given (g ∷ gs)) p h = done-not-10 _ (fold-keeps Not10 (merge_glyph p.span) (glyph-not-10 p.span) (given (span_begun (g ∷ gs))) tt p.glyphs)

merged-not-10 : (ps : List SpanParts) → Not10 (merge_glyphs ps)
unfolding merge_glyphs
merged-not-10 ps = fold-keeps Not10 merge_span span-not-10 (given []) tt ps

-- 9
stretched-not-10 : (s : Span) (cs : List Cluster) (is : List ℕ) → Not10 (adjust_glyphs_of s cs is)
unfolding adjust_glyphs_of
stretched-not-10 s cs [] = tt
stretched-not-10 s cs (i ∷ is) = cond-keeps Not10 (all (λ (j : ℕ). is_zero (get_map_or +0 width_of cs j)) (i ∷ is)) tt tt

adjust-not-10 : (o : Outcome (List Cluster)) (s : Span) → Not10 o → Not10 (adjust_span o s)
unfolding adjust_span
adjust-not-10 (refused n) s h = h
adjust-not-10 (given cs) s h = cond-keeps Not10 (has_length s) (cond-keeps Not10 (eqb s.adjust adjust_spacing_and_glyphs) (stretched-not-10 s cs _) tt) tt

spans-not-10 : (spans : List Span) (cs : List Cluster) → Not10 (apply_length_adjust spans cs)
unfolding apply_length_adjust
spans-not-10 spans cs = fold-keeps Not10 adjust_span adjust-not-10 (given cs) tt spans

adjusted-not-10 : (job : Job) (c : Chunk) (gs : List Glyph) → Not10 (adjusted_clusters job c gs)
unfolding adjusted_clusters
adjusted-not-10 job c gs = spans-not-10 (spans_of c) _

chunk-not-10 : (job : Job) (o : Outcome Progress) (c : Chunk) → Not10 o → Not10 (layout_chunk job o c)
unfolding layout_chunk
chunk-not-10 job (refused n) c h = h
chunk-not-10 job (given st) c h = then-not-10 (merge_glyphs c.parts) _ (merged-not-10 c.parts) (λ gs. then-not-10 (adjusted_clusters job c gs) _ (adjusted-not-10 job c gs) (λ cs. tt))

job-not-10 : (job : Job) → Not10 (layout_job job)
unfolding layout_job
job-not-10 job =
    then-not-10 (foldl (layout_chunk job) (given beginning) job.chunks) _ (fold-keeps Not10 (layout_chunk job) (chunk-not-10 job) (given beginning) tt job.chunks) (λ st. tt)

rows-not-10 : (bs : List ℕ) → Not10 (layout_rows bs)
unfolding layout_rows
rows-not-10 bs = then-not-10 (checked bs) _ (checked-not-10 bs) (λ job. then-not-10 (layout_job job) _ (job-not-10 job) (λ ls. tt))

-- ---- with room

number-not-10 : (o : Outcome (List ℕ)) → Not10 o → ¬ (number_of o ≡ 10)
number-not-10 (refused n) h e = rw e at h
number-not-10 (given answer) h e = absurd (omega (arith, e))

module _ (bs : List ℕ) (room : ℕ) where
  -- the answer has room, if there is one
  roomy-not-10 : ((rows : List ChunkRow) → layout_rows bs ≡ given rows → length (answer_bytes rows) ≤ room) → ¬ (number_of (layout_of bs room) ≡ 10)
  unfolding layout_of and_then fitting
  roomy-not-10 h = number-not-10 (layout_of bs room) (go (layout_rows bs) refl (rows-not-10 bs))
    where
      put : (rows : List ChunkRow) (b : Bool) → T b → Not10 (cond b (given (answer_bytes rows)) (refused 10))
      put rows true t = tt
      put rows false t = elim t [ ]

      go : (o : Outcome (List ChunkRow)) → layout_rows bs ≡ o → Not10 o → Not10 (and_then o (fitting room))
      go (refused n) e k = k
      go (given rows) e k = put rows (leb (length (answer_bytes rows)) room) (le→leb _ _ (h rows e))

  pub never-too-short : 3 * length bs ≤ room → ¬ (number_of (layout_of bs room) ≡ 10)
  never-too-short h = roomy-not-10 (λ rows e. omega (arith, answer-bound bs rows e))

  -- whatever the job
  pub always-enough : 167_772 ≤ room → ¬ (number_of (layout_of bs room) ≡ 10)
  always-enough h = roomy-not-10 (λ rows e. le_trans (answer-small bs rows e) h)

  -- ---- the length that the call returns

  of-answer : (P : ℕ → Type 0) → P 0 → ((rows : List ChunkRow) → layout_rows bs ≡ given rows → P (length (answer_bytes rows))) → P (length_of (layout_of bs room))
  unfolding layout_of and_then fitting
  of-answer P none some = go (layout_rows bs) refl
    where
      go : (o : Outcome (List ChunkRow)) → layout_rows bs ≡ o → P (length_of (and_then o (fitting room)))
      go (refused n) e = none
      go (given rows) e = cond-keeps (λ o. P (length_of o)) (leb (length (answer_bytes rows)) room) (some rows e) none

  pub length-bound : 25 * length_of (layout_of bs room) ≤ 64 * length bs
  length-bound = of-answer (λ n. 25 * n ≤ 64 * length bs) (omega arith) (answer-bound bs)

  pub length-small : length_of (layout_of bs room) ≤ 167_772
  length-small = of-answer (λ n. n ≤ 167_772) (omega arith) (answer-small bs)
