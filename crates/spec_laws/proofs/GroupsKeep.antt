-- The runs of neighbours and the groups of a merged list: what holds of every glyph holds of theirs, and there are no more of them than glyphs.
-- Assumes nothing.
use Prim.Native.Nat.{ℕ, suc, ◌+◌, ◌≤◌}
use mathlib.Core.List.{List, ◌∷◌}
use native.Mathlib.Omega.{arith}
use lib.ListN.{length}
use lib.Dec.{eqb, ltb}
use Rattle.spec_laws.proofs.All.{cond-keeps}
use Rattle.spec.specs.Lists.{All}
use Rattle.spec_laws.proofs.Few.{Few}
use Rattle.spec.specs.declared.Glyph.{Glyph}
use Rattle.spec.specs.declared.Span.{Span}
use Rattle.spec.specs.Group.{Group, chunk_span_at, join_run, glyph_runs, covered_runs, groups}

module _ (P : Glyph → Type 0) where
  pub record KeptGroup (g : Group) : Type 0 where
    pub first : P g.first
    pub glyphs : All P g.glyphs

  -- at most n runs
  abbrev Runs : ℕ → List (List Glyph) → Type 0
  Runs = Few (All P)

  join-keeps : (g : Glyph) (n : ℕ) {runs : List (List Glyph)} → P g → All (All P) runs → length runs ≤ n → Runs (suc n) (join_run g runs)
  unfolding join_run
  join-keeps g n p All.none h = record { each = All.more (All.more p All.none) All.none; few = omega arith }
  join-keeps g n p (All.more All.none qs) h = record { each = All.more (All.more p All.none) qs; few = omega arith }
  join-keeps g n p (All.more (All.more {x = f} {xs = fs} q r) qs) h =
      cond-keeps (Runs (suc n)) (eqb g.index f.index) (record { each = All.more (All.more p (All.more q r)) qs; few = omega arith })
      (record { each = All.more (All.more p All.none) (All.more (All.more q r) qs); few = omega arith })

  runs-keep : {gs : List Glyph} → All P gs → Runs (length gs) (glyph_runs gs)
  unfolding glyph_runs
  runs-keep All.none = record { each = All.none; few = omega arith }
  runs-keep (All.more {x = g} {xs = gs} p ps) = let k = runs-keep ps in join-keeps g (length gs) p k.each k.few

  covered-keeps : (spans : List Span) (from n : ℕ) {runs : List (List Glyph)} → All (All P) runs → length runs ≤ n → Few KeptGroup n (covered_runs spans from runs)
  unfolding covered_runs
  covered-keeps spans from n All.none h = record { each = All.none; few = h }
  covered-keeps spans from n (All.more All.none qs) h = covered-keeps spans from n qs (omega arith)
  covered-keeps spans from n (All.more {xs = runs} (All.more {x = g} {xs = gs} p ps) qs) h =
      let r = covered-keeps spans (from + length (g ∷ gs)) (length runs) qs (omega arith) in
      cond-keeps (Few KeptGroup n) (ltb (chunk_span_at spans g.index) (length spans))
      (record { each = All.more (record { first = p; glyphs = All.more p ps }) r.each; few = omega arith }) (record { each = r.each; few = omega arith })

  pub groups-keep : (spans : List Span) (n : ℕ) {gs : List Glyph} → Few P n gs → Few KeptGroup n (groups spans gs)
  unfolding groups
  groups-keep spans n k = let r = runs-keep k.each in covered-keeps spans 0 n r.each (omega arith)
