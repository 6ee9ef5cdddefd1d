-- A walk over the marked places of a range, whatever is done at each: its turns and its end. Assumes nothing.
use Prim.Native.Nat.{ℕ, zero, suc, ◌+◌, ◌-◌, ◌≤◌, ◌<◌}
use mathlib.Core.Path.{◌≡◌, refl, ap, ◌∙◌}
use mathlib.Core.Bool.{Bool, true, false, cond}
use mathlib.Core.List.{List, [], ◌∷◌, foldl}
use native.Mathlib.Numerals.{add-one}
use native.Mathlib.Omega.{arith}
use lib.ListN.{length, get_or, set, take, drop, length-take, length-drop}
use lib.Seq.{drop-cons}
use lib.Dec.{eqb}
use lib.Ieee.{Float}
use borrow.Author.Tests.{ne_eqb}
use Rattle.spec.specs.Lists.{all, modify, get_map_or}
use Rattle.std.specs.List.{list_all, range_with_len}
use Rattle.spec.specs.Single.{+0, ◌+ᶠ◌, is_zero}
use Rattle.spec.specs.declared.Span.{Span}
use Rattle.spec.specs.declared.Cluster.{Cluster}
use Rattle.spec.specs.Cluster.{rounded}
use Rattle.spec.specs.LengthAdjust.{taken_of, width_of}
use Rattle.length_adjust.specs.declared.range.Range.{Range}
use Rattle.length_adjust.specs.Marks.{marked_from, segment, marked_in}
use Rattle.length_adjust.proofs.Cases.{same_or_not}

-- a range that is not at its end begins with the element there
segment-cons : (xs : List ℕ) (i to : ℕ) → i < to → to ≤ length xs → take (to - i) (drop i xs) ≡ get_or xs i 0 ∷ take (to - (i + 1)) (drop (i + 1) xs)
segment-cons xs i to h g =
    let e : to - i ≡ suc (to - suc i) = omega arith in
    rw (e, add-one, drop-cons xs i 0 (omega arith))

module _ {B : Type 0} (step : B → ℕ → B) where
  -- b is what came of the places before i: what comes of it at the marked places from i on and before `to`
  abbrev pub walked : B → List ℕ → ℕ → ℕ → B
  walked b marks to i = foldl step b (marked_from i (take (to - i) (drop i marks)))

  -- place i is marked, or it is not; b' is what came of it
  module _ (b b' : B) (marks : List ℕ) (to i : ℕ) (h : i < to) (g : to ≤ length marks) where
    pub walk-on : get_or marks i 0 ≡ 1 → b' ≡ step b i → walked b' marks to (i + 1) ≡ walked b marks to i
    unfolding marked_from
    walk-on e q = rw (q, segment-cons marks i to h g, e)

    pub walk-past : (get_or marks i 0 ≡ 1 → ⊥) → b' ≡ b → walked b' marks to (i + 1) ≡ walked b marks to i
    unfolding marked_from
    walk-past e q = rw (q, segment-cons marks i to h g, ne_eqb (get_or marks i 0) 1 e)

  pub walk-done : (b : B) (marks : List ℕ) (to i : ℕ) → to ≤ i → walked b marks to i ≡ b
  unfolding marked_from
  walk-done b marks to i h = let e : to - i ≡ 0 = omega arith in rw e

-- at most as many as there are marks
from-few : (k : ℕ) (marks : List ℕ) → length (marked_from k marks) ≤ length marks
unfolding marked_from
from-few k [] = omega arith
from-few k (m ∷ marks) = go (eqb m 1) (from-few (k + 1) marks)
  where
    rest : List ℕ
    rest = marked_from (k + 1) marks

    go : (b : Bool) → length rest ≤ length marks → length (cond b (k ∷ rest) rest) ≤ suc (length marks)
    go true h = omega arith
    go false h = omega arith

pub marked-few : (r : Range) (marks : List ℕ) → length (marked_in r marks) ≤ length marks
marked-few r marks =
    let few = from-few r.from (segment r marks) in
    let part : length (segment r marks) ≤ length marks = rw (length-take, length-drop) (omega arith) in
    omega (arith, few, part)

-- ---- a walk's step: f of the cluster at a place, or a number of it
pub modify-at : {A : Type 0} (f : A → A) (xs : List A) (i : ℕ) (d : A) → i < length xs → set xs i (f (get_or xs i d)) ≡ modify f xs i
unfolding modify
modify-at f [] i d h = refl
modify-at f (x ∷ xs) zero d h = refl
modify-at f (x ∷ xs) (suc i) d h = ap {B = List _} (λ r. x ∷ r) (modify-at f xs i d (omega arith))

pub map_at : {A B : Type 0} (b : B) (g : A → B) (xs : List A) (i : ℕ) (d : A) → i < length xs → get_map_or b g xs i ≡ g (get_or xs i d)
unfolding get_map_or
map_at b g [] i d h = absurd (omega arith)
map_at b g (x ∷ xs) zero d h = refl
map_at b g (x ∷ xs) (suc i) d h = map_at b g xs i d (omega arith)

-- ---- how many, as a walk

abbrev pub one_more : ℕ → ℕ → ℕ
one_more n i = n + 1

pub count-walk : (n : ℕ) (is : List ℕ) → foldl one_more n is ≡ n + length is
count-walk n [] = omega arith
count-walk n (i ∷ is) = count-walk (n + 1) is ∙ omega arith

-- ---- of clusters: what is taken of one more, and whether its width is zero

abbrev pub add-taken : Span → List Cluster → Float → ℕ → Float
add-taken s cs w i = w +ᶠ get_map_or +0 (taken_of rounded s) cs i

abbrev zero-width : List Cluster → ℕ → Bool
zero-width cs i = is_zero (get_map_or +0 width_of cs i)

-- a place is not marked, or the width there is zero; d is what a read past the end gives
abbrev pub flat-at : List Cluster → List ℕ → Cluster → ℕ → Bool
flat-at cs marks d i = cond (eqb (get_or marks i 0) 1) (is_zero (get_or cs i d).width) true

pub flat-range : (cs : List Cluster) (marks : List ℕ) (d : Cluster) (from n : ℕ) → length marks ≤ length cs → (0 < n → from + n ≤ length marks)
    → list_all (flat-at cs marks d) (range_with_len from n) ≡ all (zero-width cs) (marked_from from (take n (drop from marks)))
unfolding all marked_from
flat-range cs marks d from zero l h = refl
flat-range cs marks d from (suc n) l h =
    let inside : from < length marks = let k = h (omega arith) in omega arith in
    let cons : drop from marks ≡ get_or marks from 0 ∷ drop (from + 1) marks = rw add-one (drop-cons marks from 0 inside) in
    let more = flat-range cs marks d (from + 1) n l (λ k. let m = h (omega arith) in omega arith) in
    rw cons
    (same_or_not (get_or marks from 0) 1
    (λ e. rw (e, map_at +0 width_of cs from d (omega arith), more))
    (λ e. rw (ne_eqb (get_or marks from 0) 1 e, more)))
