-- Keys passed over up to a byte index: one by one, and by halves where they ascend. Assumes nothing.
use Prim.Native.Nat.{ℕ, zero, suc, ◌+◌, ◌/◌, ◌%◌, ◌≤◌, ◌<◌}
use mathlib.Core.Path.{◌≡◌, refl, sym, ap}
use mathlib.Core.Bool.{true, false, cond}
use mathlib.Core.List.{List, [], ◌∷◌}
use native.Mathlib.Omega.{arith}
use lib.ListN.{length, get_or, take, drop}
use lib.Dec.{leb, ltb}
use borrow.Author.Tests.{le-leb, lt-leb, le-ltb, lt-ltb, eq-eqb, ne_eqb, ltb-true, ltb-false}
use Rattle.spec.specs.Lists.{find_idx, All}
use Rattle.spec.specs.declared.Span.{Span}
use Rattle.spec_laws.proofs.All.{all-weaken, all_take, all_drop}
use Rattle.sort.proofs.Cases.{in_order}
use Rattle.std.specs.Prelude.{Some, None}
use Rattle.std.specs.Option.{unwrap_or}
use Rattle.std.specs.List.{AllWithin, position_or_len}
use Rattle.std.proofs.lemmas.List.Recursion.{is_position_or_len}
use Rattle.std.specs.List.Sorted.{IsNonDecreasingBy, IsPartitionedBy, IsPartitionPoint}
use Rattle.std.proofs.lemmas.List.Sorted.{IsPartitionedBy-ltb}
use Rattle.sort.proofs.Ascending.{Least, Ascends, take-ascends, drop-ascends}
use Rattle.length_adjust.specs.Marks.{below, place_for, own_keys}

-- ---- the place of a key

module _ (n b key : ℕ) where
  pub place_other : (key / 65536 ≡ b → ⊥) → place_for n b (key ∷ []) ≡ n
  unfolding place_for
  place_other e = rw (ne_eqb (key / 65536) b e)

  pub place_here : key / 65536 ≡ b → place_for n b (key ∷ []) ≡ key % 65536
  unfolding place_for
  place_here e = rw (eq-eqb (key / 65536) b e)

-- ---- by halves

least_at : {k : ℕ} {ks : List ℕ} → Least k ks → (j d : ℕ) → j < length ks → k ≤ get_or ks j d
least_at All.none j d h = absurd (omega arith)
least_at (All.more g l) zero d h = g
least_at (All.more g l) (suc j) d h = least_at l j d (omega arith)

indexes-rise : {keys : List ℕ} → Ascends keys → IsNonDecreasingBy (λ (key : ℕ). key / 65536) keys
indexes-rise Ascends.end i j d h g = absurd (omega arith)
indexes-rise (Ascends.step l a) zero zero d h g = omega arith
indexes-rise (Ascends.step l a) zero (suc j) d h g = omega (arith, least_at l j d (omega arith))
indexes-rise (Ascends.step l a) (suc i) zero d h g = absurd (omega arith)
indexes-rise (Ascends.step l a) (suc i) (suc j) d h g = indexes-rise a i j d (omega arith) (omega arith)

module _ (b : ℕ) where
  pub below-stop : (key : ℕ) (keys : List ℕ) → b ≤ key / 65536 → below b (key ∷ keys) ≡ 0
  unfolding find_idx
  below-stop key keys h = rw (le-leb b (key / 65536) h)

  pub below_on : (key : ℕ) (keys : List ℕ) → key / 65536 < b → below b (key ∷ keys) ≡ suc (below b keys)
  unfolding find_idx
  below_on key keys h = rw (lt-leb b (key / 65536) h)

  below-past : {keys : List ℕ} → Ascends keys → (j : ℕ) → j < length keys → get_or keys j 0 / 65536 < b → j < below b keys
  unfolding find_idx
  below-past Ascends.end j h e = absurd (omega arith)
  below-past (Ascends.step {k = key} l a) zero h e = rw (lt-leb b (key / 65536) e) (omega arith)
  below-past (Ascends.step {k = key} l a) (suc j) h e =
      let more = below-past a j (omega arith) e in
      let least = least_at l j 0 (omega arith) in
      rw (lt-leb b (key / 65536) (omega arith)) (omega (arith, more))

  below-here : (keys : List ℕ) (j : ℕ) → j < length keys → b ≤ get_or keys j 0 / 65536 → below b keys ≤ j
  unfolding find_idx
  below-here [] j h e = absurd (omega arith)
  below-here (key ∷ keys) zero h e = rw (le-leb b (key / 65536) e) (omega arith)
  below-here (key ∷ keys) (suc j) h e =
      let more = below-here keys j (omega arith) e in
      in_order b (key / 65536) (λ g. rw (le-leb b (key / 65536) g) (omega arith)) (λ g. rw (lt-leb b (key / 65536) g) (omega (arith, more)))

  pub below-most : (keys : List ℕ) → below b keys ≤ length keys
  unfolding find_idx
  below-most [] = omega arith
  below-most (key ∷ keys) =
      let more = below-most keys in
      in_order b (key / 65536) (λ g. rw (le-leb b (key / 65536) g) (omega arith)) (λ g. rw (lt-leb b (key / 65536) g) (omega (arith, more)))

  -- what halving finds
  pub parted : {keys : List ℕ} → Ascends keys → IsPartitionedBy (λ (key : ℕ). ltb (key / 65536) b) keys
  parted {keys} a = IsPartitionedBy-ltb (λ (key : ℕ). key / 65536) keys b (indexes-rise a)

  pub below-point : {keys : List ℕ} → Ascends keys → (i : ℕ) → i ≤ length keys
      → IsPartitionPoint (λ (key : ℕ). ltb (key / 65536) b ≡ true) (λ (key : ℕ). ltb (key / 65536) b ≡ false) keys i → i ≡ below b keys
  below-point {keys} a i h p = omega (arith, least i p.0 (omega arith), most)
    where
      least : (j : ℕ) → AllWithin (λ (key : ℕ). ltb (key / 65536) b ≡ true) keys 0 j → j ≤ length keys → j ≤ below b keys
      least zero q k = omega arith
      least (suc j) q k = below-past a j (omega arith) (ltb-true _ b (q j 0 (omega arith) (omega arith)))

      most : below b keys ≤ i
      most = in_order (length keys) i (λ g. omega (arith, below-most keys)) (λ g. below-here keys i g (ltb-false _ b (p.1 i 0 (omega arith) g)))

  -- what a search one by one finds
  pub or-length : (keys : List ℕ) → let at = position_or_len (λ (key : ℕ). leb b (key / 65536)) keys in
      unwrap_or (cond (ltb at (length keys)) (Some at) None) (length keys) ≡ below b keys
  unfolding find_idx
  or-length keys =
      let at = position_or_len (λ (key : ℕ). leb b (key / 65536)) keys in
      let is : below b keys ≡ at =
      is_position_or_len (below b) (λ (key : ℕ). leb b (key / 65536)) refl (λ key keys. let more : suc (below b keys) ≡ 1 + below b keys = omega arith in ap (cond (leb b (key / 65536)) 0) more) keys in
      in_order (length keys) at
      (λ h. rw (le-ltb at (length keys) h) (omega (arith, is, below-most keys)))
      (λ h. rw (lt-ltb at (length keys) h) (sym is))

  -- ---- what is passed, and what is left

  all-below : (keys : List ℕ) → All (λ key. key / 65536 < b) (take (below b keys) keys)
  unfolding find_idx
  all-below [] = All.none
  all-below (key ∷ keys) =
      let more = all-below keys in
      in_order b (key / 65536) (λ g. rw (le-leb b (key / 65536) g) All.none) (λ g. rw (lt-leb b (key / 65536) g) (All.more g more))

  pub not-below : {keys : List ℕ} → Ascends keys → All (λ key. b ≤ key / 65536) (drop (below b keys) keys)
  unfolding find_idx
  not-below Ascends.end = All.none
  not-below (Ascends.step {k = key} l a) =
      let more = not-below a in
      in_order b (key / 65536)
      (λ g. rw (le-leb b (key / 65536) g) (All.more g (all-weaken (λ j p. omega arith) l)))
      (λ g. rw (lt-leb b (key / 65536) g) more)

  pub none_below : {keys : List ℕ} → All (λ key. b ≤ key / 65536) keys → drop (below b keys) keys ≡ keys
  unfolding find_idx
  none_below All.none = refl
  none_below (All.more {x = key} g gs) = rw (le-leb b (key / 65536) g)

-- ---- the keys of a span's clusters

pub own-all : {P : ℕ → Type 0} (s : Span) {keys : List ℕ} → All P keys → All P (own_keys s keys)
own-all s {keys} l = all_take (below s.end (drop (below s.start keys) keys)) (all_drop (below s.start keys) l)

module _ (s : Span) {keys : List ℕ} (a : Ascends keys) where
  rest-ascends : Ascends (drop (below s.start keys) keys)
  rest-ascends = drop-ascends (below s.start keys) a

  pub own-ascends : Ascends (own_keys s keys)
  own-ascends = take-ascends (below s.end (drop (below s.start keys) keys)) rest-ascends

  pub own-from : All (λ key. s.start ≤ key / 65536) (own_keys s keys)
  own-from = all_take (below s.end (drop (below s.start keys) keys)) (not-below s.start a)

  pub own-before : All (λ key. key / 65536 < s.end) (own_keys s keys)
  own-before = all-below s.end (drop (below s.start keys) keys)
