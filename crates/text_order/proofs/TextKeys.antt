-- The text order by keys: the keys of `logical_order` are the sorted keys of the entries. Assumes nothing.
use Prim.Native.Nat.{ℕ, zero, suc, ◌+◌, ◌*◌, ◌/◌, ◌%◌, ◌≤◌, ◌<◌}
use mathlib.Core.Path.{◌≡◌, refl, sym, ap, ◌∙◌}
use mathlib.Core.List.{List, [], ◌∷◌, map, foldl}
use native.Mathlib.Omega.{arith}
use lib.ListN.{length, get_or, length-map}
use Rattle.spec.specs.Lists.{All}
use Rattle.spec.specs.Position.{Entry, entries, insert, logical_order}
use Rattle.sort.specs.Sorted.{insert_key, sorted}
use Rattle.text_order.specs.Keys.{key_of, keys_of}
use Rattle.sort.proofs.Cases.{in_order}
use Rattle.sort.proofs.Insertion.{insert-past, insert-here, insert-keys, sorted-keys}
use Rattle.text_order.proofs.Entries.{entry_past, entry_here, inserted, Earlier, earlier-next, entries-length}

-- ---- an entry and its key

module _ (e : Entry) (h : e.place < 65536) where
  pub key-index : key_of e / 65536 ≡ e.index
  key-index = omega arith

  pub key-place : key_of e % 65536 ≡ e.place
  key-place = omega arith

-- ---- the keys

-- a later place goes behind those of its byte index, as its key does
insert_key_lem : (e : Entry) {es : List Entry} → e.place < 65536 → All (λ f. f.place < e.place) es → map key_of (insert e es) ≡ insert_key (key_of e) (map key_of es)
unfolding insert insert_key
insert_key_lem e g All.none = refl
insert_key_lem e g (All.more {x = f} {xs = fs} h hs) =
    let more = insert_key_lem e g hs in
    in_order f.index e.index
    (λ p. rw (entry_past e f fs p, insert-past (key_of e) (key_of f) (map key_of fs) (omega arith)) (ap {B = List ℕ} (λ r. key_of f ∷ r) more))
    (λ p. rw (entry_here e f fs p, insert-here (key_of e) (key_of f) (map key_of fs) (omega arith)))

insert-keys-of : (k : ℕ) (is : List ℕ) {done : List Entry} → Earlier k done → k + length is ≤ 65536
    → map key_of (inserted done (entries k is)) ≡ foldl (λ (zs : List ℕ) (z : ℕ). insert_key z zs) (map key_of done) (map key_of (entries k is))
unfolding entries
insert-keys-of k [] h g = refl
insert-keys-of k (i ∷ is) {done} h g =
    insert-keys-of (suc k) is (earlier-next i k h) (omega arith)
    ∙ ap (λ (ks : List ℕ). foldl (λ (zs : List ℕ) (z : ℕ). insert_key z zs) ks (map key_of (entries (suc k) is))) (insert_key_lem (record { index = i; place = k }) (omega arith) h)

pub order-keys : (is : List ℕ) → length is ≤ 65536 → map key_of (logical_order is) ≡ sorted (keys_of is)
unfolding logical_order
order-keys is h = insert-keys-of 0 is All.none (omega arith) ∙ insert-keys (keys_of is) [] ∙ sym (sorted-keys (keys_of is))

pub keys_length : (is : List ℕ) → length (keys_of is) ≡ length is
keys_length is = length-map (entries 0 is) key_of ∙ entries-length 0 is

-- the key at a place, as they come
entry_at : (n : ℕ) (is : List ℕ) (k : ℕ) → k < length is → get_or (map key_of (entries n is)) k 0 ≡ get_or is k 0 * 65536 + (n + k)
unfolding entries
entry_at n [] k h = absurd (omega arith)
entry_at n (i ∷ is) zero h = omega arith
entry_at n (i ∷ is) (suc k) h = omega (arith, entry_at (suc n) is k (omega arith))

pub keys-at : (is : List ℕ) (k : ℕ) → k < length is → get_or (keys_of is) k 0 ≡ get_or is k 0 * 65536 + k
keys-at is k h = omega (arith, entry_at 0 is k h)
