-- The walk along the sorted keys finds the first cluster of each byte index. Assumes nothing.
use Prim.Native.Nat.{ℕ, zero, suc, ◌+◌, ◌*◌, ◌/◌, ◌%◌, ◌≤◌, ◌<◌}
use mathlib.Core.Path.{◌≡◌, refl, sym, ap, ap₂, ◌∙◌}
use mathlib.Core.Bool.{cond}
use mathlib.Core.List.{List, [], ◌∷◌, map}
use native.Mathlib.Nat.{zero-add, le_refl}
use native.Mathlib.Omega.{arith}
use lib.ListN.{length, drop}
use lib.Dec.{eqb}
use borrow.Author.Tests.{eq-eqb, ne_eqb, le-leb, lt-leb}
use Rattle.spec.specs.Lists.{find_idx, All}
use Rattle.spec.specs.Position.{entries}
use Rattle.spec_laws.proofs.All.{all-weaken}
use Rattle.sort.specs.Sorted.{insert_key, sorted}
use Rattle.text_order.specs.Keys.{key_of, keys_of}
use Rattle.sort.proofs.Cases.{in_order}
use Rattle.sort.proofs.Insertion.{insert-nil, insert-past, insert-here, all-sorted}
use Rattle.sort.proofs.Ascending.{Ascends, sorted-ascends, drop-ascends}
use Rattle.length_adjust.specs.Marks.{below, place_for, found}
use Rattle.length_adjust.proofs.Cases.{same_or_not}

-- the place of the first key of byte index b; n where there is none
unfoldable pub first_of : ℕ → ℕ → List ℕ → ℕ
first_of n b [] = n
first_of n b (key ∷ keys) = cond (eqb (key / 65536) b) (key % 65536) (first_of n b keys)

-- ---- along keys that ascend

pub first-late : (n b : ℕ) {keys : List ℕ} → All (λ j. b < j / 65536) keys → first_of n b keys ≡ n
unfolding first_of
first-late n b All.none = refl
first-late n b (All.more {x = j} h hs) = rw (ne_eqb (j / 65536) b (λ e. omega arith)) (first-late n b hs)

module _ (n b : ℕ) where
  -- the first key that is not below b decides
  place-first : {keys : List ℕ} → Ascends keys → place_for n b (drop (below b keys) keys) ≡ first_of n b keys
  unfolding find_idx place_for first_of
  place-first Ascends.end = refl
  place-first (Ascends.step {k = j} {ks = js} l a) =
      let more = place-first a in
      in_order b (j / 65536)
      (λ h. rw (le-leb b (j / 65536) h)
      (same_or_not (j / 65536) b
      (λ e. rw (eq-eqb (j / 65536) b e))
      (λ e. rw (ne_eqb (j / 65536) b e) (sym (first-late n b (all-weaken (λ i p. omega arith) l))))))
      (λ h. rw (lt-leb b (j / 65536) h, ne_eqb (j / 65536) b (λ e. omega arith)) more)

  -- no key of a later byte index is passed
  pub first-kept : (c : ℕ) → b ≤ c → (keys : List ℕ) → first_of n c (drop (below b keys) keys) ≡ first_of n c keys
  unfolding find_idx first_of
  first-kept c g [] = refl
  first-kept c g (j ∷ js) =
      let more = first-kept c g js in
      in_order b (j / 65536)
      (λ h. rw (le-leb b (j / 65536) h))
      (λ h. rw (lt-leb b (j / 65536) h, ne_eqb (j / 65536) c (λ e. omega arith)) more)

-- f of each of m byte indexes from b on
abbrev pub up_from : (ℕ → ℕ) → ℕ → ℕ → List ℕ
up_from f b zero = []
up_from f b (suc m) = f b ∷ up_from f (b + 1) m

pub found-firsts : (n : ℕ) (f : ℕ → ℕ) (m b : ℕ) {keys : List ℕ} → Ascends keys → ((c : ℕ) → b ≤ c → first_of n c keys ≡ f c) → found n keys b m ≡ up_from f b m
unfolding found
found-firsts n f zero b a h = refl
found-firsts n f (suc m) b {keys} a h =
    ap₂ {C = List ℕ} (λ x xs. x ∷ xs) (place-first n b a ∙ h b (le_refl b))
    (found-firsts n f m (b + 1) (drop-ascends (below b keys) a) (λ c g. first-kept n b c (omega arith) keys ∙ h c (omega arith)))

-- ---- the first key is that of the first cluster

-- a key that stands before all others of its byte index is the first, and the others stay what they are
first-insert : (n b key : ℕ) {keys : List ℕ} → All (λ j. key / 65536 ≡ j / 65536 → key < j) keys → first_of n b (insert_key key keys) ≡ first_of n b (key ∷ keys)
unfolding first_of
first-insert n b key All.none = rw (insert-nil key)
first-insert n b key (All.more {x = j} {xs = js} h hs) =
    let more = first-insert n b key hs in
    in_order j key
    (λ g. rw (insert-past key j js g, more)
    (same_or_not (key / 65536) b
    (λ e. rw (eq-eqb (key / 65536) b e, ne_eqb (j / 65536) b (λ q. let l = h (e ∙ sym q) in omega arith)))
    (λ e. rw (ne_eqb (key / 65536) b e))))
    (λ g. rw (insert-here key j js g))

-- keys of places behind k
later-keys : (i k m : ℕ) (is : List ℕ) → k < m → m + length is ≤ 65536
    → All (λ j. (i * 65536 + k) / 65536 ≡ j / 65536 → i * 65536 + k < j) (map key_of (entries m is))
unfolding entries
later-keys i k m [] h g = All.none
later-keys i k m (x ∷ is) h g = All.more {x = x * 65536 + m} (λ e. omega arith) (later-keys i k (suc m) is (omega arith) (omega arith))

first-place : (b k : ℕ) (is : List ℕ) → k + length is ≤ 65536
    → first_of (k + length is) b (sorted (map key_of (entries k is))) ≡ k + find_idx (λ (j : ℕ). eqb j b) is
unfolding entries sorted find_idx first_of
first-place b k [] h = refl
first-place b k (i ∷ is) h =
    let n : k + suc (length is) ≡ suc k + length is = omega arith in
    let q : (i * 65536 + k) / 65536 ≡ i = omega arith in
    let r : (i * 65536 + k) % 65536 ≡ k = omega arith in
    let more = first-place b (suc k) is (omega arith) in
    first-insert (k + suc (length is)) b (i * 65536 + k) (all-sorted (later-keys i k (suc k) is (omega arith) (omega arith)))
    ∙ ap (λ (m : ℕ). first_of m b ((i * 65536 + k) ∷ sorted (map key_of (entries (suc k) is)))) n
    ∙ rw (more, q, r)
    (same_or_not i b (λ e. rw (eq-eqb i b e) (omega arith)) (λ e. rw (ne_eqb i b e) (omega arith)))

-- ---- what the walk finds

pub found-places : (is : List ℕ) (b m : ℕ) → length is ≤ 65536 → found (length is) (sorted (keys_of is)) b m ≡ up_from (λ (c : ℕ). find_idx (λ (j : ℕ). eqb j c) is) b m
found-places is b m h = found-firsts (length is) _ m b (sorted-ascends (keys_of is)) (λ c g. simp zero-add at (first-place c 0 is (omega arith)))
