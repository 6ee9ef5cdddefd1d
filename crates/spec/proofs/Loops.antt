-- One turn and the end of each loop that the code has over a list: a fold, a search, elements set anew in place. Each for any element type.
-- Assumes nothing.
use Prim.Native.Nat.{ℕ, zero, suc, ◌+◌, ◌<◌, ◌≤◌}
use mathlib.Core.Path.{◌≡◌, refl, sym, ap, ◌∙◌}
use mathlib.Core.Bool.{Bool, true, false}
use mathlib.Core.List.{List, [], ◌∷◌, ◌++◌, map, foldl, append-nil}
use native.Mathlib.Nat.{le_refl, le_of_suc-le-suc, not-suc-le-zero}
use native.Mathlib.Numerals.{add-one}
use lib.ListN.{length, get_or, take, drop, set, drop_of_length-le}
use lib.Seq.{drop-cons, drop-set-lt, take-suc-set, take_all, append_snoc}
use Rattle.spec.specs.Lists.{any, scan, modify, get_map_or}

-- ---- a fold
module _ {A B : Type 0} (f : B → A → B) where
  pub fold-turn : (b : B) (xs : List A) (i : ℕ) (d : A) → i < length xs → foldl f (f b (get_or xs i d)) (drop (i + 1) xs) ≡ foldl f b (drop i xs)
  fold-turn b xs i d h = rw (add-one, drop-cons xs i d h)

  pub fold_done : (b : B) (xs : List A) (i : ℕ) → length xs ≤ i → foldl f b (drop i xs) ≡ b
  fold_done b xs i h = rw (drop_of_length-le xs h)

-- ---- a search: does p hold of an element from place i on?
module _ {A : Type 0} (p : A → Bool) where
  pub any_here : (xs : List A) (i : ℕ) (d : A) → i < length xs → p (get_or xs i d) ≡ true → any p (drop i xs) ≡ true
  unfolding any
  any_here xs i d h e = rw (drop-cons xs i d h, e)

  pub any-on : (xs : List A) (i : ℕ) (d : A) → i < length xs → p (get_or xs i d) ≡ false → any p (drop (i + 1) xs) ≡ any p (drop i xs)
  unfolding any
  any-on xs i d h e = rw (add-one, drop-cons xs i d h, e)

  pub any_none : (xs : List A) (i : ℕ) → length xs ≤ i → any p (drop i xs) ≡ false
  unfolding any
  any_none xs i h = rw (drop_of_length-le xs h)

-- ---- elements set anew in place
module _ {A S : Type 0} (next : S → A → S) (f : S → A → A) where
  -- what is done, then what is still to be done
  abbrev pub halfway : S → List A → ℕ → List A
  halfway s xs i = take i xs ++ scan next f s (drop i xs)

  pub scan-turn : (s : S) (xs : List A) (i : ℕ) (d : A) → i < length xs
      → halfway (next s (get_or xs i d)) (set xs i (f s (get_or xs i d))) (i + 1) ≡ halfway s xs i
  unfolding scan
  scan-turn s xs i d h =
      rw (add-one, take-suc-set xs i (f s (get_or xs i d)) h, drop-set-lt (suc i) xs i (f s (get_or xs i d)) (le_refl (suc i)))
      (append_snoc (take i xs) (f s (get_or xs i d)) _ ∙ ap (λ (l : List A). take i xs ++ scan next f s l) (sym (drop-cons xs i d h)))

  pub scan-done : (s : S) (xs : List A) (i : ℕ) → length xs ≤ i → halfway s xs i ≡ xs
  unfolding scan
  scan-done s xs i h = rw (drop_of_length-le xs h) (append-nil (take i xs) ∙ take_all i xs h)

-- a map is a scan whose state stays
pub scan-map : {A S : Type 0} (s : S) (f : A → A) (xs : List A) → scan (λ (s : S) (x : A). s) (λ (s : S). f) s xs ≡ map f xs
unfolding scan
scan-map s f [] = refl
scan-map {A} s f (x ∷ xs) = ap {B = List A} (λ r. f x ∷ r) (scan-map s f xs)

-- ---- one element by its place: set anew by f, and what g gives of it
pub modify-set : {A : Type 0} (f : A → A) (xs : List A) (i : ℕ) (x : A) → i < length xs → get_or xs i x ≡ x → modify f xs i ≡ set xs i (f x)
unfolding modify
modify-set f [] i x h e = refl
modify-set f (y ∷ xs) zero x h e = rw e
modify-set f (y ∷ xs) (suc i) x h e = ap {B = List _} (λ r. y ∷ r) (modify-set f xs i x (le_of_suc-le-suc h) e)

pub at_or-get : {A B : Type 0} (b : B) (g : A → B) (xs : List A) (i : ℕ) (x : A) → i < length xs → get_or xs i x ≡ x → get_map_or b g xs i ≡ g x
unfolding get_map_or
at_or-get b g [] i x h e = absurd (not-suc-le-zero h)
at_or-get b g (y ∷ xs) zero x h e = ap g e
at_or-get b g (y ∷ xs) (suc i) x h e = at_or-get b g xs i x (le_of_suc-le-suc h) e
