-- The words as the calls leave them: what stands at which place, and the words past the window. Assumes nothing.
use Prim.Native.Nat.{ℕ, suc, ◌+◌, ◌-◌, ◌≤◌, ◌<◌}
use native.Mathlib.Nat.{le_trans, le_of_suc-le-suc}
use native.Mathlib.Omega.{arith}
use mathlib.Core.Path.{◌≡◌, refl, sym, ap, ◌∙◌, subst}
use mathlib.Core.Bool.{Bool, true, false, cond}
use mathlib.Core.List.{List, [], ◌∷◌, ◌++◌}
use lib.ListN.{length, take, drop, set, replicate, length-set, length-drop}
use lib.Seq.{drop-drop, drop-set-lt, drop-append-add, length-take-le}
use lib.Dec.{ltb}
use borrow.Author.Tests.{lt-ltb, le-ltb, ltb-true}
use borrow.Rule.Slice.PartMut.{put_mid}
use Rattle.column_window.specs.Words.{tails, opened_words, put_block, moved_words, turned_words, added_words, Ready, window_words, span_word, count_word, place_word, block_words}
use Rattle.column_window.proofs.Highest.{length-tails}

too_short : {n : ℕ} → 4 ≤ n → n < 4 → ⊥
too_short h l = omega arith

-- the four words before the block are stored anew, and a place of the block
pub heads : (b : List ℕ) (at x c p h : ℕ) → 4 ≤ length b → set (set (set (set b (4 + at) x) 1 c) 2 p) 3 h ≡ span_word b ∷ c ∷ p ∷ h ∷ set (block_words b) at x
heads [] at x c p h l = absurd (too_short l (omega arith))
heads (a ∷ []) at x c p h l = absurd (too_short l (omega arith))
heads (a ∷ s ∷ []) at x c p h l = absurd (too_short l (omega arith))
heads (a ∷ s ∷ t ∷ []) at x c p h l = absurd (too_short l (omega arith))
heads (a ∷ s ∷ t ∷ u ∷ bs) at x c p h l = let e : 4 + at ≡ suc (suc (suc (suc at))) = omega arith in rw e refl

module _ (b : List ℕ) (x : ℕ) where
  pub moves : place_word b + 1 < span_word b → moved_words b x ≡ added_words b x
  unfolding added_words
  moves h = rw (lt-ltb (place_word b + 1) (span_word b) h) refl

  turns : span_word b ≤ place_word b + 1 → turned_words b x ≡ added_words b x
  unfolding added_words
  turns h = rw (le-ltb (place_word b + 1) (span_word b) h) refl

  -- a label that fills the block, before the tails are made
  abbrev full : List ℕ
  full = set (set (set (set b (4 + place_word b) x) 1 (count_word b + 1)) 2 0) 3 0

  pub tails-put : {ys : List ℕ} → 4 ≤ length b → span_word b ≤ place_word b + 1 → ys ≡ tails (take (4 + span_word b - 4) (drop 4 full))
      → put_mid 4 (4 + span_word b - 4) full ys ≡ added_words b x
  tails-put {ys} room last e =
      let n : 4 + span_word b - 4 ≡ span_word b = omega arith in
      let h = heads b (place_word b) x (count_word b + 1) 0 0 room in
      let f : ys ≡ tails (take (span_word b) (put_block b x)) = rw (n, h) at e in
      rw (n, h) (ap (λ (l : List ℕ). span_word b ∷ (count_word b + 1) ∷ 0 ∷ 0 ∷ (l ++ drop (span_word b) (put_block b x))) f ∙ turns last)

-- ---- an empty window

pub opened-words : (b : List ℕ) (n : ℕ) {ys : List ℕ} → window_words ≤ length b → ys ≡ replicate (length (take 67 (drop 1 b))) 0
    → set (put_mid 1 67 b ys) 0 n ≡ opened_words b n
unfolding opened_words
opened-words [] n h e = absurd (too_short (le_trans (omega arith) h) (omega arith))
opened-words (a ∷ bs) n h e = rw (e, length-take-le 67 bs (le_of_suc-le-suc h)) refl

-- ---- the words past the window

pub past-opened : (b : List ℕ) (n : ℕ) → drop window_words (opened_words b n) ≡ drop window_words b
unfolding opened_words
past-opened b n = refl

-- ---- what a label leaves: the words past the window stay, and the running place is within the block

module _ (b : List ℕ) (x : ℕ) (r : Ready b) where
  past-moved : drop window_words (moved_words b x) ≡ drop window_words b
  past-moved = drop-set-lt 64 (drop 4 b) (place_word b) x (omega arith) ∙ drop-drop 64 4 b

  tails-length : length (tails (take (span_word b) (put_block b x))) ≡ span_word b
  tails-length =
      let n : length (put_block b x) ≡ length b - 4 = length-set (block_words b) (place_word b) x ∙ length-drop 4 b in
      length-tails (take (span_word b) (put_block b x)) ∙ length-take-le (span_word b) (put_block b x) (omega arith)

  past-turned : drop window_words (turned_words b x) ≡ drop window_words b
  past-turned =
      let l = tails-length in
      let k : 64 ≡ length (tails (take (span_word b) (put_block b x))) + (64 - span_word b) = omega arith in
      let m : span_word b + (64 - span_word b) ≡ 64 = omega arith in
      ap (λ (j : ℕ). drop j (tails (take (span_word b) (put_block b x)) ++ drop (span_word b) (put_block b x))) k
      ∙ drop-append-add (tails (take (span_word b) (put_block b x))) (drop (span_word b) (put_block b x)) (64 - span_word b)
      ∙ drop-drop (64 - span_word b) (span_word b) (put_block b x) ∙ ap (λ (j : ℕ). drop j (put_block b x)) m ∙ past-moved

  pub past-added : drop window_words (added_words b x) ≡ drop window_words b
  unfolding added_words
  past-added = by (ltb (place_word b + 1) (span_word b))
    where
      by : (t : Bool) → drop window_words (cond t (moved_words b x) (turned_words b x)) ≡ drop window_words b
      by true = past-moved
      by false = past-turned

  place-added : place_word (added_words b x) < 64
  unfolding added_words
  place-added = by (ltb (place_word b + 1) (span_word b)) refl
    where
      by : (t : Bool) → ltb (place_word b + 1) (span_word b) ≡ t → place_word (cond t (moved_words b x) (turned_words b x)) < 64
      by true e = let h = ltb-true (place_word b + 1) (span_word b) e in omega arith
      by false e = omega arith

  pub place-within : {a : List ℕ} → a ≡ added_words b x → length a ≡ length b → 4 + place_word a < length a
  place-within {a} e l =
      let p : place_word a < 64 = subst (λ (k : List ℕ). place_word k < 64) (sym e) place-added in
      let m = r.room in
      omega arith
