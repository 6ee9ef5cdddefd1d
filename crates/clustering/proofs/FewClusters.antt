-- There are no more clusters than glyphs: no more groups than runs, and no more runs than glyphs. Assumes nothing.
use Prim.Native.Nat.{ℕ, suc, ◌+◌, ◌≤◌}
use mathlib.Core.Bool.{Bool, true, false, cond}
use mathlib.Core.List.{List, [], ◌∷◌}
use native.Mathlib.Omega.{arith}
use lib.ListN.{length}
use lib.Dec.{ltb, eqb}
use Rattle.spec.specs.declared.Glyph.{Glyph}
use Rattle.spec.specs.declared.Span.{Span}
use Rattle.spec.specs.Group.{chunk_span_at, join_run, glyph_runs, covered_runs, groups}
use Rattle.job_rows.specs.Rows.{spans_in, glyphs_at}
use Rattle.clustering.specs.Groups.{clusters_in}
use Rattle.clustering.proofs.Glyphs.{merged-length}

cond-few : {A : Type 0} (b : Bool) (xs ys : List A) (n : ℕ) → length xs ≤ n → length ys ≤ n → length (cond b xs ys) ≤ n
cond-few true xs ys n p q = p
cond-few false xs ys n p q = q

-- ---- no more groups than runs

covered-few : (spans : List Span) (from : ℕ) (runs : List (List Glyph)) → length (covered_runs spans from runs) ≤ length runs
unfolding covered_runs
covered-few spans from [] = omega arith
covered-few spans from ([] ∷ runs) = omega (arith, covered-few spans from runs)
covered-few spans from ((g ∷ gs) ∷ runs) =
    let rest = covered-few spans (from + length (g ∷ gs)) runs in
    cond-few (ltb (chunk_span_at spans g.index) (length spans)) _ _ (suc (length runs)) (omega arith) (omega arith)

few-groups : (spans : List Span) (gs : List Glyph) → length (groups spans gs) ≤ length (glyph_runs gs)
unfolding groups
few-groups spans gs = covered-few spans 0 (glyph_runs gs)

-- ---- no more runs than glyphs

join-few : (g : Glyph) (runs : List (List Glyph)) → length (join_run g runs) ≤ suc (length runs)
unfolding join_run
join-few g [] = omega arith
join-few g ([] ∷ runs) = omega arith
join-few g ((h ∷ hs) ∷ runs) = cond-few (eqb g.index h.index) _ _ (suc (suc (length runs))) (omega arith) (omega arith)

few-runs : (gs : List Glyph) → length (glyph_runs gs) ≤ length gs
unfolding glyph_runs
few-runs [] = omega arith
few-runs (g ∷ gs) = omega (arith, join-few g (glyph_runs gs), few-runs gs)

-- ---- so that there are no more clusters than glyphs

pub clusters-at-most : (s spans merged : List ℕ) → clusters_in s spans merged ≤ length merged
clusters-at-most s spans merged =
    let gs = glyphs_at s merged in
    omega (arith, few-groups (spans_in s spans) gs, few-runs gs, merged-length s merged)
