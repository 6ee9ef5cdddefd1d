-- The entries of the text order: how they are put in, how many there are, and what holds of each. Assumes nothing.
use Prim.Native.Nat.{ℕ, suc, ◌+◌, ◌≤◌, ◌<◌}
use mathlib.Core.Path.{◌≡◌, refl, ap, ◌∙◌}
use mathlib.Core.List.{List, [], ◌∷◌, ◌++◌, foldl}
use native.Mathlib.Nat.{lt_trans}
use native.Mathlib.Omega.{arith}
use lib.ListN.{length, get_or, length-append}
use lib.Seq.{append_snoc, get_or-append_seam}
use borrow.Author.Tests.{le-leb, lt-leb}
use Rattle.spec_laws.proofs.All.{all-weaken}
use Rattle.spec.specs.Lists.{All}
use Rattle.spec.specs.Position.{Entry, entries, insert, logical_order}
use Rattle.sort.proofs.Cases.{in_order}

-- behind those of its byte index and of smaller ones
pub entry_past : (e f : Entry) (fs : List Entry) → f.index ≤ e.index → insert e (f ∷ fs) ≡ f ∷ insert e fs
unfolding insert
entry_past e f fs h = rw (le-leb f.index e.index h)

pub entry_here : (e f : Entry) (fs : List Entry) → e.index < f.index → insert e (f ∷ fs) ≡ e ∷ f ∷ fs
unfolding insert
entry_here e f fs h = rw (lt-leb f.index e.index h)

pub all-entry : {P : Entry → Type 0} (e : Entry) {es : List Entry} → P e → All P es → All P (insert e es)
unfolding insert
all-entry e p All.none = All.more p All.none
all-entry e p (All.more {x = f} {xs = fs} q qs) =
    let more = all-entry e p qs in
    in_order f.index e.index (λ h. rw (entry_past e f fs h) (All.more q more)) (λ h. rw (entry_here e f fs h) (All.more p (All.more q qs)))

-- entries put in one by one
abbrev pub inserted : List Entry → List Entry → List Entry
inserted done es = foldl (λ (fs : List Entry) (e : Entry). insert e fs) done es

all_inserted : {P : Entry → Type 0} {done es : List Entry} → All P done → All P es → All P (inserted done es)
all_inserted p All.none = p
all_inserted {done = done} p (All.more {x = e} q qs) = all_inserted {done = insert e done} (all-entry e q p) qs

-- what holds of each entry holds of each in text order
pub all-order : {P : Entry → Type 0} (is : List ℕ) → All P (entries 0 is) → All P (logical_order is)
unfolding logical_order
all-order is ps = all_inserted All.none ps

entry_length : (e : Entry) (es : List Entry) → length (insert e es) ≡ suc (length es)
unfolding insert
entry_length e [] = refl
entry_length e (f ∷ fs) =
    let more = entry_length e fs in
    in_order f.index e.index (λ h. rw (entry_past e f fs h) (ap suc more)) (λ h. rw (entry_here e f fs h))

inserted-length : (done es : List Entry) → length (inserted done es) ≡ length done + length es
inserted-length done [] = omega arith
inserted-length done (e ∷ es) = omega (arith, inserted-length (insert e done) es, entry_length e done)

pub entries-length : (k : ℕ) (is : List ℕ) → length (entries k is) ≡ length is
unfolding entries
entries-length k [] = refl
entries-length k (i ∷ is) = ap suc (entries-length (suc k) is)

pub order-length : (is : List ℕ) → length (logical_order is) ≡ length is
unfolding logical_order
order-length is = inserted-length [] (entries 0 is) ∙ omega (arith, entries-length 0 is)

-- an entry's byte index is the one at its place
pub record Stands (is : List ℕ) (e : Entry) : Type 0 where
  pub inside : e.place < length is
  pub there : get_or is e.place 0 ≡ e.index

entries-stand : (done is : List ℕ) → All (Stands (done ++ is)) (entries (length done) is)
unfolding entries
entries-stand done [] = All.none
entries-stand done (i ∷ is) =
    let n : length (done ++ i ∷ []) ≡ suc (length done) = simp length-append (omega arith) in
    let l : length done < length (done ++ i ∷ is) = simp length-append (omega arith) in
    All.more
    (record { inside = l; there = get_or-append_seam done i is 0 })
    (rw (n, append_snoc done i is) at (entries-stand (done ++ i ∷ []) is))

pub order-stands : (is : List ℕ) → All (Stands is) (logical_order is)
order-stands is = all-order is (entries-stand [] is)

pub order-places : (is : List ℕ) → All (λ e. e.place < length is) (logical_order is)
order-places is = all-weaken (λ e s. s.inside) (order-stands is)

-- ---- entries of earlier places

abbrev pub Earlier : ℕ → List Entry → Type 0
Earlier k es = All (λ e. e.place < k) es

-- the entry of the next place
pub earlier-next : (i k : ℕ) {es : List Entry} → Earlier k es → Earlier (suc k) (insert (record { index = i; place = k }) es)
earlier-next i k h =
    let l : k < suc k = omega arith in
    all-entry (record { index = i; place = k }) l (all-weaken (λ e p. lt_trans p l) h)
