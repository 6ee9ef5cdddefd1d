-- The largest of a list of extents, by their patterns; and the last of a list. Assumes nothing.
use Prim.Native.Nat.{ℕ, zero, suc, ◌+◌, ◌-◌, ◌≤◌, max}
use native.Mathlib.Omega.{arith}
use mathlib.Core.Path.{◌≡◌, refl, sym, ap, ◌∙◌}
use mathlib.Core.Bool.{Bool, true, false, cond}
use mathlib.Core.List.{List, [], ◌∷◌, ◌++◌, map, foldl}
use lib.ListN.{length, drop, length-append, length-map}
use lib.Seq.{drop-append-le, drop-append-add}
use lib.Dec.{ltb}
use lib.Ieee.{Float, binary32, of_bits}
use borrow.Author.Tests.{ltb-true, ltb-false, lt-ltb}
use Rattle.spec_laws.proofs.All.{and_left, and_right}
use Rattle.spec.specs.Lists.{all}
use Rattle.column_window.specs.Window.{larger, widest, last_of}
use Rattle.column_window.specs.Words.{highest}
use Rattle.column_window.specs.State.{is_extent}
use Rattle.column_window.proofs.Patterns.{pattern-order}

-- ---- the largest of floats is that of the highest pattern

larger-pattern : (a b : ℕ) → is_extent a ≡ true → is_extent b ≡ true → larger (of_bits binary32 a) (of_bits binary32 b) ≡ of_bits binary32 (max a b)
unfolding larger
larger-pattern a b p q = rw (pattern-order a b p q) (by (ltb a b) refl)
  where
    by : (t : Bool) → ltb a b ≡ t → cond t (of_bits binary32 b) (of_bits binary32 a) ≡ of_bits binary32 (max a b)
    by true e = let h : b ≡ max a b = let l = ltb-true a b e in omega arith in ap (of_bits binary32) h
    by false e = let h : a ≡ max a b = let l = ltb-false a b e in omega arith in ap (of_bits binary32) h

max-extent : (a b : ℕ) → is_extent a ≡ true → is_extent b ≡ true → is_extent (max a b) ≡ true
max-extent a b p q = let h = ltb-true a 2139095040 p in let k = ltb-true b 2139095040 q in lt-ltb (max a b) 2139095040 (omega arith)

widest-from : (a : ℕ) (ps : List ℕ) → is_extent a ≡ true → all is_extent ps ≡ true
    → foldl larger (of_bits binary32 a) (map (of_bits binary32) ps) ≡ of_bits binary32 (max a (highest ps))
unfolding all highest
widest-from a [] p q = let e : a ≡ max a 0 = omega arith in ap (of_bits binary32) e
widest-from a (x ∷ xs) p q =
    let k = and_left (is_extent x) (all is_extent xs) q in
    let e : max (max a x) (highest xs) ≡ max a (max x (highest xs)) = omega arith in
    ap (λ (z : Float). foldl larger z (map (of_bits binary32) xs)) (larger-pattern a x p k)
    ∙ widest-from (max a x) xs (max-extent a x p k) (and_right (is_extent x) (all is_extent xs) q) ∙ ap (of_bits binary32) e

pub widest-pattern : (ps : List ℕ) → all is_extent ps ≡ true → widest (map (of_bits binary32) ps) ≡ of_bits binary32 (highest ps)
unfolding widest
widest-pattern ps q = let e : max 0 (highest ps) ≡ highest ps = omega arith in widest-from 0 ps refl q ∙ ap (of_bits binary32) e

-- ---- the last of a list

module _ {A : Type 0} where
  pub last-append : (n : ℕ) (b r : List A) → length r ≤ n → last_of n (b ++ r) ≡ last_of (n - length r) b ++ r
  unfolding last_of
  last-append n b r h =
      let e : length (b ++ r) - n ≡ length b - (n - length r) = simp length-append (omega arith) in
      rw e (drop-append-le (length b - (n - length r)) b r (omega arith))

  pub last_within : (n : ℕ) (b r : List A) → n ≤ length r → last_of n (b ++ r) ≡ last_of n r
  unfolding last_of
  last_within n b r h =
      let e : length (b ++ r) - n ≡ length b + (length r - n) = simp length-append (omega arith) in
      rw e (drop-append-add b r (length r - n))

  pub last-drop : (n i : ℕ) (r : List A) → length r ≡ n → i ≤ n → last_of (n - i) r ≡ drop i r
  unfolding last_of
  last-drop n i r e h = let f : length r - (n - i) ≡ i = omega arith in rw f refl

map-drop : {A B : Type 0} (f : A → B) (n : ℕ) (xs : List A) → map f (drop n xs) ≡ drop n (map f xs)
map-drop f zero xs = refl
map-drop f (suc n) [] = refl
map-drop f (suc n) (x ∷ xs) = map-drop f n xs

pub map_last : {A B : Type 0} (f : A → B) (n : ℕ) (xs : List A) → map f (last_of n xs) ≡ last_of n (map f xs)
unfolding last_of
map_last f n xs = map-drop f (length xs - n) xs ∙ ap (λ (k : ℕ). drop (k - n) (map f xs)) (sym (length-map xs f))

-- all of a list, and all of its last
all_drop : {A : Type 0} (p : A → Bool) (n : ℕ) (xs : List A) → all p xs ≡ true → all p (drop n xs) ≡ true
unfolding all
all_drop p zero xs e = e
all_drop p (suc n) [] e = e
all_drop p (suc n) (x ∷ xs) e = all_drop p n xs (and_right (p x) (all p xs) e)

pub all-last : {A : Type 0} (p : A → Bool) (n : ℕ) (xs : List A) → all p xs ≡ true → all p (last_of n xs) ≡ true
unfolding last_of
all-last p n xs e = all_drop p (length xs - n) xs e

pub all_snoc : {A : Type 0} (p : A → Bool) (xs : List A) (x : A) → all p xs ≡ true → p x ≡ true → all p (xs ++ (x ∷ [])) ≡ true
unfolding all
all_snoc p [] x e f = rw f refl
all_snoc p (y ∷ ys) x e f = rw (and_left (p y) (all p ys) e) (all_snoc p ys x (and_right (p y) (all p ys) e) f)
