-- The highest of patterns, of lists put together, and at each place of a block. Assumes nothing.
use Prim.Native.Nat.{ℕ, zero, suc, ◌-◌, ◌≤◌, ◌<◌, max}
use native.Mathlib.Nat.{not-suc-le-zero}
use native.Mathlib.Omega.{arith}
use mathlib.Core.Path.{◌≡◌, refl, sym, ap, ◌∙◌}
use mathlib.Core.List.{List, [], ◌∷◌, ◌++◌, append_assoc}
use lib.ListN.{length, take, drop, set, get_or}
use lib.Seq.{take-suc, drop-cons, set_at, get_or_at, length-take-le}
use Rattle.column_window.specs.Words.{highest, tails}

pub highest-append : (xs ys : List ℕ) → highest (xs ++ ys) ≡ max (highest xs) (highest ys)
unfolding highest
highest-append [] ys = omega arith
highest-append (x ∷ xs) ys = let e = highest-append xs ys in omega arith

pub highest-snoc : (xs : List ℕ) (x : ℕ) → highest (xs ++ (x ∷ [])) ≡ max (highest xs) x
unfolding highest
highest-snoc xs x = let e = highest-append xs (x ∷ []) in omega arith

-- ---- the tails of a block

pub length-tails : (b : List ℕ) → length (tails b) ≡ length b
unfolding tails
length-tails [] = refl
length-tails (x ∷ xs) = ap suc (length-tails xs)

pub get_d-tails : (b : List ℕ) (i : ℕ) → get_or (tails b) i 0 ≡ highest (drop i b)
unfolding tails highest
get_d-tails [] zero = refl
get_d-tails [] (suc i) = refl
get_d-tails (x ∷ xs) zero = refl
get_d-tails (x ∷ xs) (suc i) = get_d-tails xs i

highest-turn : (b : List ℕ) (j : ℕ) → j < length b → highest (drop j b) ≡ max (get_or b j 0) (highest (drop (suc j) b))
unfolding highest
highest-turn b j h = rw (drop-cons b j 0 h) refl

tails-turn : (b : List ℕ) (j : ℕ) → j < length b → tails (drop j b) ≡ highest (drop j b) ∷ tails (drop (suc j) b)
unfolding tails
tails-turn b j h = rw (drop-cons b j 0 h) refl

-- made in place, from the last to the first: behind place j they stand already
module _ (b : List ℕ) (j : ℕ) (h : j < length b) {block : List ℕ} (e : block ≡ take (suc j) b ++ tails (drop (suc j) b)) where
  split : block ≡ take j b ++ get_or b j 0 ∷ tails (drop (suc j) b)
  split = e ∙ ap (λ (l : List ℕ). l ++ tails (drop (suc j) b)) (take-suc b j 0 h) ∙ append_assoc (take j b) (get_or b j 0 ∷ []) (tails (drop (suc j) b))

  read-turn : get_or block j 0 ≡ get_or b j 0
  read-turn = ap (λ (l : List ℕ). get_or l j 0) split ∙ get_or_at (take j b) (get_or b j 0) (tails (drop (suc j) b)) 0 j (length-take-le j b (omega arith))

  write-turn : set block j (highest (drop j b)) ≡ take j b ++ tails (drop j b)
  write-turn =
      ap (λ (l : List ℕ). set l j (highest (drop j b))) split
      ∙ set_at (take j b) (get_or b j 0) (tails (drop (suc j) b)) (highest (drop j b)) j (length-take-le j b (omega arith))
      ∙ ap (λ (l : List ℕ). take j b ++ l) (sym (tails-turn b j h))

-- a turn of that loop: the place before i takes the highest from there on
pub turn : (b : List ℕ) (i : ℕ) {block : List ℕ} {best v : ℕ} → 0 < i → i ≤ length b → best ≡ highest (drop i b) → block ≡ take i b ++ tails (drop i b)
    → v ≡ max (get_or block (i - 1) 0) best → (v ≡ highest (drop (i - 1) b)) × (set block (i - 1) v ≡ take (i - 1) b ++ tails (drop (i - 1) b))
turn b zero l h p e q = absurd (not-suc-le-zero l)
turn b (suc j) {block} {best} {v} l h p e q =
    let n : suc j - 1 ≡ j = omega arith in
    let r : v ≡ highest (drop j b) =
    (rw n at q) ∙ ap (λ (a : ℕ). max a best) (read-turn b j h e) ∙ ap (max (get_or b j 0)) p ∙ sym (highest-turn b j h) in
    rw n (r, ap (set block j) r ∙ write-turn b j h e)
