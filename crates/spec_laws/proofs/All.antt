-- What holds of all elements of a list, of all conditions, of all records that are read; and what folds and branches keep. Assumes nothing.
use Prim.Native.Nat.{ℕ, zero, suc, ◌<◌}
use native.Mathlib.Nat.{le_of_suc-le-suc, not-suc-le-zero}
use native.Mathlib.Omega.{arith}
use mathlib.Core.Path.{◌≡◌, refl}
use mathlib.Core.Bool.{Bool, true, false, cond, ◌&&◌, ◌||◌}
use mathlib.Core.List.{List, [], ◌∷◌, ◌++◌, map, foldl}
use lib.ListN.{length, take, drop, set, get_or}
use lib.Dec.{T}
use lib.Ieee.Fits.{and_l, and_r}
use Rattle.spec.specs.Lists.{All, all, any, every, modify, scan}
use Rattle.spec.specs.Bytes.{rows}

-- a test that passes everywhere
pub all_of : {A : Type 0} (p : A → Bool) (xs : List A) → T (all p xs) → All (λ x. T (p x)) xs
unfolding all
all_of p [] h = All.none
all_of p (x ∷ xs) h = All.more (and_l (p x) (all p xs) h) (all_of p xs (and_r (p x) (all p xs) h))

-- what holds of every record that is read
pub all-rows : {A : Type 0} (P : A → Type 0) (size : List ℕ → ℕ) (read : List ℕ → A) → ((bs : List ℕ) → P (read bs)) → (n : ℕ) (bs : List ℕ) → All P (rows size read n bs)
unfolding rows
all-rows P size read h zero bs = All.none
all-rows P size read h (suc n) bs = All.more (h bs) (all-rows P size read h n (drop (size bs) bs))

pub both : {A : Type 0} {P Q R : A → Type 0} {xs : List A} → ((x : A) → P x → Q x → R x) → All P xs → All Q xs → All R xs
both f All.none All.none = All.none
both f (All.more {x = x} p ps) (All.more q qs) = All.more (f x p q) (both f ps qs)

-- conditions that all hold
pub all-every : (bs : List Bool) → T (every bs) → All T bs
unfolding every
all-every [] h = All.none
all-every (b ∷ bs) h = All.more (and_l b (every bs) h) (all-every bs (and_r b (every bs) h))

pub first : {A : Type 0} {P : A → Type 0} {x : A} {xs : List A} → All P (x ∷ xs) → P x
first (All.more p ps) = p

pub rest : {A : Type 0} {P : A → Type 0} {x : A} {xs : List A} → All P (x ∷ xs) → All P xs
rest (All.more p ps) = ps

-- ---- parts of a list, and lists put together

module _ {A : Type 0} {P : A → Type 0} where
  pub all_append : {xs ys : List A} → All P xs → All P ys → All P (xs ++ ys)
  all_append All.none qs = qs
  all_append (All.more p ps) qs = All.more p (all_append ps qs)

  pub all_take : (n : ℕ) {xs : List A} → All P xs → All P (take n xs)
  all_take zero ps = All.none
  all_take (suc n) All.none = All.none
  all_take (suc n) (All.more p ps) = All.more p (all_take n ps)

  pub all_drop : (n : ℕ) {xs : List A} → All P xs → All P (drop n xs)
  all_drop zero ps = ps
  all_drop (suc n) All.none = All.none
  all_drop (suc n) (All.more p ps) = all_drop n ps

  pub all_set : {xs : List A} (i : ℕ) (x : A) → P x → All P xs → All P (set xs i x)
  all_set i x q All.none = All.none
  all_set zero x q (All.more p ps) = All.more q ps
  all_set (suc i) x q (All.more p ps) = All.more p (all_set i x q ps)

  pub all_get_d : {xs : List A} (i : ℕ) (d : A) → P d → All P xs → P (get_or xs i d)
  all_get_d i d q All.none = q
  all_get_d zero d q (All.more p ps) = p
  all_get_d (suc i) d q (All.more p ps) = all_get_d i d q ps

  -- of a place inside the list
  pub all_here : {xs : List A} (i : ℕ) (d : A) → All P xs → i < length xs → P (get_or xs i d)
  all_here i d All.none h = absurd (not-suc-le-zero h)
  all_here zero d (All.more p ps) h = p
  all_here (suc i) d (All.more p ps) h = all_here i d ps (le_of_suc-le-suc h)

  -- an element set anew, and each of them
  pub all-modify : (f : A → A) → ((x : A) → P x → P (f x)) → {xs : List A} → All P xs → (i : ℕ) → All P (modify f xs i)
  unfolding modify
  all-modify f h All.none i = All.none
  all-modify f h (All.more p ps) zero = All.more (h _ p) ps
  all-modify f h (All.more p ps) (suc i) = All.more p (all-modify f h ps i)

  pub all-scan : {S : Type 0} (next : S → A → S) (f : S → A → A) → ((s : S) (x : A) → P x → P (f s x)) → (s : S) {xs : List A} → All P xs → All P (scan next f s xs)
  unfolding scan
  all-scan next f h s All.none = All.none
  all-scan next f h s (All.more p ps) = All.more (h s _ p) (all-scan next f h (next s _) ps)

pub all_map : {A B : Type 0} {P : A → Type 0} (Q : B → Type 0) (f : A → B) → ((x : A) → P x → Q (f x)) → {xs : List A} → All P xs → All Q (map f xs)
all_map Q f h All.none = All.none
all_map Q f h (All.more p ps) = All.more (h _ p) (all_map Q f h ps)

pub all-weaken : {A : Type 0} {P Q : A → Type 0} → ((x : A) → P x → Q x) → {xs : List A} → All P xs → All Q xs
all-weaken h All.none = All.none
all-weaken h (All.more p ps) = All.more (h _ p) (all-weaken h ps)

-- what holds of every record that is read of bytes that each have Q
pub all_read : {A : Type 0} {Q : ℕ → Type 0} (P : A → Type 0) (size : List ℕ → ℕ) (read : List ℕ → A) → ((bs : List ℕ) → All Q bs → P (read bs)) → (n : ℕ) (bs : List ℕ) → All Q bs
    → All P (rows size read n bs)
unfolding rows
all_read P size read h zero bs q = All.none
all_read P size read h (suc n) bs q = All.more (h bs q) (all_read P size read h n (drop (size bs) bs) (all_drop (size bs) q))

-- ---- what each step of a fold keeps, and each branch has

pub fold-keeps : {A B : Type 0} (P : B → Type 0) (f : B → A → B) → ((b : B) (x : A) → P b → P (f b x)) → (b : B) → P b → (xs : List A) → P (foldl f b xs)
fold-keeps P f h b p [] = p
fold-keeps P f h b p (x ∷ xs) = fold-keeps P f h (f b x) (h b x p) xs

pub cond-keeps : {A : Type 0} (P : A → Type 0) (b : Bool) {x y : A} → P x → P y → P (cond b x y)
cond-keeps P true p q = p
cond-keeps P false p q = q

-- ---- tests that hold of none

pub neither : (a b : Bool) → (a || b) ≡ false → (a ≡ false) × (b ≡ false)
neither false b e = (refl, e)
neither true b e = let z : ◌≡◌ {A = ℕ} 0 1 = cc in absurd (omega arith)

-- a fold whose steps do nothing there
pub fold-skips : {A B : Type 0} (p : A → Bool) (f : B → A → B) (b : B) → ((x : A) → p x ≡ false → f b x ≡ b) → (xs : List A) → any p xs ≡ false → foldl f b xs ≡ b
unfolding any
fold-skips p f b h [] e = refl
fold-skips p f b h (x ∷ xs) e = let each = neither (p x) (any p xs) e in rw (h x each.0) (fold-skips p f b h xs each.1)

-- ---- tests that hold of all

pub and_left : (a b : Bool) → (a && b) ≡ true → a ≡ true
and_left true b e = refl
and_left false b e = e

pub and_right : (a b : Bool) → (a && b) ≡ true → b ≡ true
and_right true b e = e
and_right false b e = cc

pub all-at : {A : Type 0} (p : A → Bool) (xs : List A) (i : ℕ) (d : A) → all p xs ≡ true → i < length xs → p (get_or xs i d) ≡ true
unfolding all
all-at p [] i d e h = absurd (not-suc-le-zero h)
all-at p (x ∷ xs) zero d e h = and_left (p x) (all p xs) e
all-at p (x ∷ xs) (suc i) d e h = all-at p xs i d (and_right (p x) (all p xs) e) (le_of_suc-le-suc h)

pub all_true : {A : Type 0} (p : A → Bool) {xs : List A} → All (λ x. p x ≡ true) xs → all p xs ≡ true
unfolding all
all_true p All.none = refl
all_true p (All.more e es) = rw (e, all_true p es)

pub true-all : {A : Type 0} (p : A → Bool) (xs : List A) → all p xs ≡ true → All (λ x. p x ≡ true) xs
unfolding all
true-all p [] e = All.none
true-all p (x ∷ xs) e = All.more (and_left (p x) (all p xs) e) (true-all p xs (and_right (p x) (all p xs) e))
