-- Which entry of the text order a sorted key is. Assumes nothing.
use Prim.Native.Nat.{ℕ, zero, suc, ◌+◌, ◌/◌, ◌%◌, ◌≤◌, ◌<◌}
use mathlib.Core.Path.{◌≡◌, subst, sym, ◌∙◌}
use mathlib.Core.Bool.{Bool, true}
use mathlib.Core.List.{List, [], ◌∷◌}
use native.Mathlib.Nat.{lt_of_lt_of_le}
use native.Mathlib.Omega.{arith}
use lib.ListN.{length, get_or, get_or-map}
use lib.Dec.{eqb, lit<}
use borrow.Author.Tests.{eq-eqb, ne_eqb, eqb-true}
use Rattle.spec_laws.proofs.All.{all_here, all_get_d, all-weaken}
use Rattle.spec.specs.Lists.{any}
use Rattle.spec.specs.Position.{Entry, entries, logical_order}
use Rattle.sort.specs.Sorted.{sorted}
use Rattle.text_order.specs.Keys.{key_of, keys_of}
use Rattle.text_order.proofs.Entries.{order-length, Stands, order-stands, order-places}
use Rattle.text_order.proofs.TextKeys.{key-index, key-place, order-keys}
use Rattle.text_order.proofs.AnyOrder.{any_at, any_order}

-- the entry that a place past the end has
abbrev no_entry : Entry
no_entry = record { index = 0; place = 0 }

-- the entry at p of the order
abbrev pub order_at : List ℕ → ℕ → Entry
order_at is p = get_or (logical_order is) p no_entry

pub order-at : (is : List ℕ) (p : ℕ) → p < length is → Stands is (order_at is p)
order-at is p h = all_here p no_entry (order-stands is) (rw (order-length is) h)

module _ (is : List ℕ) (few : length is ≤ 65536) (p : ℕ) where
  place-small : (order_at is p).place < 65536
  place-small = all_get_d p no_entry (lit< tt) (all-weaken (λ e l. lt_of_lt_of_le l few) (order-places is))

  key-at : get_or (sorted (keys_of is)) p 0 ≡ key_of (order_at is p)
  key-at = rw (← (order-keys is few)) (get_or-map key_of (logical_order is) p no_entry)

  pub index_at : get_or (sorted (keys_of is)) p 0 / 65536 ≡ (order_at is p).index
  index_at = rw key-at (key-index (order_at is p) place-small)

  pub place_at : get_or (sorted (keys_of is)) p 0 % 65536 ≡ (order_at is p).place
  place_at = rw key-at (key-place (order_at is p) place-small)

any_place : (n k : ℕ) (is : List ℕ) → k < length is → any (λ (e : Entry). eqb e.place (n + k)) (entries n is) ≡ true
unfolding any entries
any_place n k [] h = absurd (omega arith)
any_place n zero (i ∷ is) h = rw (eq-eqb n (n + 0) (omega arith))
any_place n (suc k) (i ∷ is) h =
    let e : n + suc k ≡ suc n + k = omega arith in
    rw (ne_eqb n (n + suc k) (omega arith))
    (subst (λ (m : ℕ). any (λ (f : Entry). eqb f.place m) (entries (suc n) is) ≡ true) (sym e) (any_place (suc n) k is (omega arith)))

-- every place has its key
pub key-of-place : (is : List ℕ) (k : ℕ) → length is ≤ 65536 → k < length is
    → (p : ℕ) × (p < length is) × (get_or (sorted (keys_of is)) p 0 % 65536 ≡ k)
key-of-place is k few h =
    let test : Entry → Bool = λ e. eqb e.place k in
    let n : 0 + k ≡ k = omega arith in
    let found = any_at test no_entry (logical_order is) (any_order test is ∙ rw n at (any_place 0 k is h)) in
    (found.0, omega (arith, found.1, order-length is), rw (place_at is few found.0) (eqb-true (order_at is found.0).place k found.2))
