-- What holds of outcomes, and of checks in their order, over any input. Assumes nothing.
use Prim.Native.Nat.{ℕ, zero, suc, ◌+◌, ◌<◌, ◌≤◌}
use native.Mathlib.Nat.{suc-add, le_of_suc-le-suc, not-suc-le-zero}
use mathlib.Core.Path.{◌≡◌, refl, sym, ap, ◌∙◌, subst}
use mathlib.Core.Bool.{Bool, true, false, cond, ◌&&◌}
use mathlib.Core.List.{List, [], ◌∷◌, map}
use native.Mathlib.Omega.{arith}
use lib.ListN.{length, drop, get_or, drop_of_length-le}
use lib.Dec.{T, eqb}
use Rattle.spec_laws.proofs.All.{all_of, cond-keeps}
use Rattle.spec.specs.Outcome.{Outcome, refused, given, and_then, Check, first_failing}
use Rattle.spec.specs.Lists.{all, All}

-- a step that gives a value was reached
pub reached : {A B : Type 0} (o : Outcome A) (f : A → Outcome B) (b : B) → and_then o f ≡ given b → (a : A) × (o ≡ given a) × (f a ≡ given b)
unfolding and_then
reached (refused n) f b e = let z : ◌≡◌ {A = ℕ} 0 1 = cc in absurd (omega arith)
reached (given a) f b e = (a, refl, e)

-- ---- the first check that fails

module _ {A : Type 0} where
  -- there is none
  all-passed : (cs : List (Check A)) (a : A) → first_failing cs a ≡ given tt → T (all (λ (c : Check A). c.passes a) cs)
  unfolding first_failing all
  all-passed [] a e = tt
  all-passed (c ∷ cs) a e = go (c.passes a) refl (all-passed cs a)
    where
      go : (p : Bool) → c.passes a ≡ p → (first_failing cs a ≡ given tt → T (all (λ (c : Check A). c.passes a) cs)) → T (c.passes a && all (λ (c : Check A). c.passes a) cs)
      go true h others = rw h (others (rw h at e))
      go false h others =
          let impossible : refused c.number ≡ given tt = rw h at e in
          let z : ◌≡◌ {A = ℕ} 0 1 = cc in
          absurd (omega arith)

  -- so the one under a number passes
  abbrev pub passes_under : ℕ → List (Check A) → A → Bool
  passes_under n [] a = true
  passes_under n (c ∷ cs) a = cond (eqb c.number n) (c.passes a) (passes_under n cs a)

  under : (n : ℕ) (a : A) (cs : List (Check A)) → All (λ (c : Check A). T (c.passes a)) cs → T (passes_under n cs a)
  under n a cs All.none = tt
  under n a cs (All.more {x = c} {xs = ds} h hs) = cond-keeps T (eqb c.number n) h (under n a ds hs)

  pub passed-under : (n : ℕ) (cs : List (Check A)) (a : A) → first_failing cs a ≡ given tt → T (passes_under n cs a)
  passed-under n cs a e = under n a cs (all_of (λ (c : Check A). c.passes a) cs (all-passed cs a e))

  -- what holds where there is none, and under the number of each check
  pub first-keeps : (P : Outcome (Unit {0}) → Type 0) (cs : List (Check A)) (a : A) → P (given tt) → All (λ (c : Check A). P (refused c.number)) cs → P (first_failing cs a)
  unfolding first_failing
  first-keeps P cs a p All.none = p
  first-keeps P cs a p (All.more {x = c} {xs = ds} h hs) = cond-keeps P (c.passes a) (first-keeps P ds a p hs) h

-- ---- the checks cs, place by place

-- a mapped list from place k on
pub mapped : {B C : Type 0} (f : B → C) (bs : List B) (k : ℕ) (d : B) → k < length bs → drop k (map f bs) ≡ f (get_or bs k d) ∷ drop (k + 1) (map f bs)
mapped f [] k d h = absurd (not-suc-le-zero h)
mapped f (b ∷ bs) zero d h = refl
mapped f (b ∷ bs) (suc k) d h = rw suc-add (mapped f bs k d (le_of_suc-le-suc h))

-- each entry of a list bs stands for one of the checks cs, in their order
pub record Lists {A B : Type 0} (check : B → Check A) (bs : List B) (cs : List (Check A)) : Type 0 where
  pub is : map check bs ≡ cs

module _ {A : Type 0} (cs : List (Check A)) (a : A) where
  -- the checks before place k pass, so the first that fails is the first of those from there on
  abbrev pub FirstFrom : ℕ → Type 0
  FirstFrom k = first_failing (drop k cs) a ≡ first_failing cs a

  -- all of them pass
  pub first-none : (k : ℕ) → length cs ≤ k → FirstFrom k → first_failing cs a ≡ given tt
  unfolding first_failing
  first-none k h before = sym before ∙ ap (λ ds. first_failing ds a) (drop_of_length-le cs h)

  -- the check at place k
  module _ {B : Type 0} {check : B → Check A} {bs : List B} (all : Lists check bs cs) (k : ℕ) (d : B) (h : k < length bs) (before : FirstFrom k) where
    here : first_failing (check (get_or bs k d) ∷ drop (k + 1) cs) a ≡ first_failing cs a
    here =
        let left : drop k cs ≡ check (get_or bs k d) ∷ drop (k + 1) cs = subst (λ ds. drop k ds ≡ check (get_or bs k d) ∷ drop (k + 1) ds) all.is (mapped check bs k d h) in
        sym (ap (λ ds. first_failing ds a) left) ∙ before

    -- it passes
    pub first-later : (check (get_or bs k d)).passes a ≡ true → FirstFrom (k + 1)
    unfolding first_failing
    first-later e = rw e at here

    -- it is the first to fail
    pub first-here : (check (get_or bs k d)).passes a ≡ false → first_failing cs a ≡ refused (check (get_or bs k d)).number
    unfolding first_failing
    first-here e = sym (rw e at here)
