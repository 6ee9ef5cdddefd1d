-- The decoration runs of a chunk: a span's run begins at a cluster that the span covers, and spans in order cover a byte index once, so that all
-- spans together have no more runs than there are clusters. Assumes nothing.
use Prim.Native.Nat.{ℕ, ◌+◌, ◌≤◌, ◌<◌}
use mathlib.Core.Path.{◌≡◌, refl, sym, subst}
use mathlib.Core.Bool.{Bool, true, false, cond, ◌&&◌}
use mathlib.Core.List.{List, [], ◌∷◌, foldl}
use native.Mathlib.Nat.{le_refl}
use native.Mathlib.Omega.{arith}
use lib.ListN.{length, length-append}
use lib.Dec.{T, leb, ltb, leb→le, ltb→lt}
use lib.Ieee.{Float}
use lib.Ieee.Fits.{and_l, and_r}
use Rattle.spec_laws.proofs.All.{cond-keeps}
use Rattle.spec_laws.proofs.Sums.{total, total-plus, total-none}
use Rattle.spec.specs.declared.Span.{Span}
use Rattle.spec.specs.declared.Cluster.{Cluster}
use Rattle.spec.specs.Merge.{span_contains}
use Rattle.spec.specs.Check.{ordered}
use Rattle.spec.specs.Decoration.{Collecting, waiting, started, ended, extend_run, Walking, collect_next, collect_decoration_spans}
use Rattle.spec.specs.Layout.{bit}

-- ---- the runs of a span

-- 1 if the span covers byte index i
abbrev pub covers : Span → ℕ → ℕ
covers s i = bit (span_contains s i) 1

-- how many clusters the span covers
abbrev pub covered_by : List Cluster → Span → ℕ
covered_by cs s = total (λ (c : Cluster). covers s c.index) cs

extended-runs : (k : ℕ) (relative : Bool) (a : Float) (o : Collecting) → length (ended (extend_run k relative a o)) ≤ length (ended o) + 1
unfolding extend_run
extended-runs k relative a (waiting rs) = simp length-append (le_refl _)
extended-runs k true a (started rs r) = simp length-append (le_refl _)
extended-runs k false a (started rs r) = simp length-append (omega arith)

next-runs : (s : Span) (st : Walking) (c : Cluster) → length (ended (collect_next s st c).runs) ≤ length (ended st.runs) + covers s c.index
unfolding collect_next
next-runs s st c = go (span_contains s c.index)
  where
    go : (b : Bool) → length (ended (cond b (extend_run st.place c.relative c.advance st.runs) (waiting (ended st.runs)))) ≤ length (ended st.runs) + bit b 1
    go true = extended-runs st.place c.relative c.advance st.runs
    go false = omega arith

walked-runs : (s : Span) (st : Walking) (cs : List Cluster) → length (ended (foldl (collect_next s) st cs).runs) ≤ length (ended st.runs) + covered_by cs s
walked-runs s st [] = omega arith
walked-runs s st (c ∷ cs) = omega (arith, walked-runs s (collect_next s st c) cs, next-runs s st c)

-- at most one for each cluster that the span covers
pub span-runs : (s : Span) (cs : List Cluster) → length (collect_decoration_spans s cs) ≤ covered_by cs s
unfolding collect_decoration_spans
span-runs s cs = let w = walked-runs s (record { place = 0; runs = waiting [] }) cs in omega arith

pub covered-few : (s : Span) (cs : List Cluster) → covered_by cs s ≤ length cs
covered-few s [] = le_refl 0
covered-few s (c ∷ cs) = let one : covers s c.index ≤ 1 = cond-keeps (λ n. n ≤ 1) (span_contains s c.index) (le_refl 1) (omega arith) in omega (arith, covered-few s cs)

-- ---- spans in order

-- how many spans cover byte index i
abbrev hits : ℕ → List Span → ℕ
hits i ss = total (λ (s : Span). covers s i) ss

-- a span, and spans in order behind it
record Next (n from : ℕ) (s : Span) (ss : List Span) : Type 0 where
  starts : from ≤ s.start
  ends : s.start ≤ s.end
  rest : T (ordered n s.end ss)

next_of : (n from : ℕ) (s : Span) (ss : List Span) → T (ordered n from (s ∷ ss)) → Next n from s ss
unfolding ordered
next_of n from s ss t =
    let inside = leb from s.start && leb s.start s.end && leb s.end n in
    let two = and_l (leb from s.start && leb s.start s.end) (leb s.end n) (and_l inside (ordered n s.end ss) t) in
    record {
      starts = leb→le _ _ (and_l (leb from s.start) (leb s.start s.end) two);
      ends = leb→le _ _ (and_r (leb from s.start) (leb s.start s.end) two);
      rest = and_r inside (ordered n s.end ss) t;
    }

module _ (s : Span) (i : ℕ) (e : span_contains s i ≡ true) where
  both_ends : T (leb s.start i && ltb i s.end)
  both_ends = subst T (sym e) tt

  from_start : s.start ≤ i
  from_start = leb→le _ _ (and_l (leb s.start i) (ltb i s.end) both_ends)

  before-end : i < s.end
  before-end = ltb→lt _ _ (and_r (leb s.start i) (ltb i s.end) both_ends)

module _ (n i : ℕ) where
  -- none of those that begin behind it
  hits-none : (from : ℕ) (ss : List Span) → T (ordered n from ss) → i < from → hits i ss ≤ 0
  hits-none from [] t h = le_refl 0
  hits-none from (s ∷ ss) t h = let next = next_of n from s ss t in go next (span_contains s i) refl (hits-none s.end ss next.rest (omega arith))
    where
      go : Next n from s ss → (b : Bool) → span_contains s i ≡ b → hits i ss ≤ 0 → bit b 1 + hits i ss ≤ 0
      go next true e r = omega (arith, from_start s i e)
      go next false e r = omega arith

  hits-once : (from : ℕ) (ss : List Span) → T (ordered n from ss) → hits i ss ≤ 1
  hits-once from [] t = omega arith
  hits-once from (s ∷ ss) t = let next = next_of n from s ss t in go next (span_contains s i) refl (hits-once s.end ss next.rest)
    where
      go : Next n from s ss → (b : Bool) → span_contains s i ≡ b → hits i ss ≤ 1 → bit b 1 + hits i ss ≤ 1
      go next true e r = omega (arith, hits-none s.end ss next.rest (before-end s i e))
      go next false e r = omega arith

-- each cluster is covered at most once
pub covered-once : (n from : ℕ) (ss : List Span) → T (ordered n from ss) → (cs : List Cluster) → total (covered_by cs) ss ≤ length cs
covered-once n from ss t [] = omega (arith, total-none ss)
covered-once n from ss t (c ∷ cs) =
    omega (arith, total-plus (λ (s : Span). covers s c.index) (covered_by cs) ss, hits-once n c.index from ss t, covered-once n from ss t cs)
