-- What a list of keys says that holds the text order of clusters. Assumes nothing.
use Prim.Native.Nat.{ℕ, zero, suc, ◌+◌, ◌%◌, ◌≤◌, ◌<◌}
use mathlib.Core.Path.{◌≡◌, sym, ap, ◌∙◌}
use mathlib.Core.List.{List, map}
use native.Mathlib.Nat.{le_of_suc-le-suc, not-suc-le-zero}
use native.Mathlib.Numerals.{add-one}
use native.Mathlib.Omega.{arith}
use lib.ListN.{length, get_or, take, set}
use lib.Seq.{get_or-take, get_or-set_same, get_or-set_other, length-take-le, take_all, ext_get_or}
use Rattle.spec.specs.Lists.{All}
use Rattle.spec.specs.Position.{logical_order}
use Rattle.spec.specs.declared.Cluster.{Cluster}
use Rattle.spec.specs.Arithmetic.{indexes}
use Rattle.spec.specs.Cluster.{rounded}
use Rattle.sort.specs.Sorted.{sorted}
use Rattle.text_order.specs.Keys.{key_of, keys_of}
use Rattle.text_order.specs.Ordered.{Sortable, Ordered}
use Rattle.sort.proofs.Cases.{in_order}
use Rattle.sort.proofs.Ascending.{Ascends, sorted-ascends}
use Rattle.sort.proofs.Insertion.{sorted-length}
use Rattle.text_order.proofs.Entries.{Stands}
use Rattle.text_order.proofs.KeyPlaces.{order_at, order-at}
use Rattle.text_order.proofs.TextKeys.{keys_length, order-keys}
use Rattle.text_order.proofs.KeyPlaces.{index_at, place_at, key-of-place}
use Rattle.text_order.proofs.Keys.{length-mapped, get_d-mapped, indexes-length}

ascends-at : {ks : List ℕ} → Ascends ks → (k : ℕ) → suc k < length ks → get_or ks k 0 ≤ get_or ks (suc k) 0
ascends-at Ascends.end k h = absurd (not-suc-le-zero h)
ascends-at (Ascends.step All.none r) k h = absurd (omega arith)
ascends-at (Ascends.step (All.more p ps) r) zero h = p
ascends-at (Ascends.step (All.more p ps) r) (suc k) h = ascends-at r k (le_of_suc-le-suc h)

same-length : (ds cs : List Cluster) → indexes rounded ds ≡ indexes rounded cs → length ds ≡ length cs
same-length ds cs e = sym (indexes-length ds) ∙ ap length e ∙ indexes-length cs

-- the place that entry k of a text order names
abbrev pub place_in : List ℕ → ℕ → ℕ
place_in order k = get_or order k 0 % 65536

-- the byte index of the cluster there
abbrev pub index_in : List ℕ → List Cluster → ℕ → ℕ
index_in order cs k = get_or (indexes rounded cs) (place_in order k) 0

-- sorted keys are in text order
pub ordered-sorted : {old order : List ℕ} {cs : List Cluster} → Sortable old cs → length order ≡ length old
    → take (length cs) order ≡ map key_of (logical_order (indexes rounded cs)) → Ordered order cs
ordered-sorted o l e = record { count = omega (arith, o.count, l); few = o.few; keys = e }

-- clusters that keep their byte indexes can be sorted still
pub sortable-still : {old order : List ℕ} {cs : List Cluster} (ds : List Cluster) → Sortable old cs → length order ≡ length old
    → indexes rounded ds ≡ indexes rounded cs → Sortable order ds
sortable-still {cs = cs} ds o l e =
    let n = same-length ds cs e in
    record { count = omega (arith, o.count, l, n); few = omega (arith, o.few, n); indexes = rw e o.indexes }

-- and keep their order
pub ordered-still : {order : List ℕ} {cs : List Cluster} (ds : List Cluster) → Ordered order cs → indexes rounded ds ≡ indexes rounded cs → Ordered order ds
ordered-still {cs = cs} ds o e =
    let n = same-length ds cs e in
    record { count = omega (arith, o.count, n); few = omega (arith, o.few, n); keys = rw (n, e) o.keys }

-- no key behind those of the clusters counts
pub ordered-take : {order : List ℕ} {cs : List Cluster} → Ordered order cs → Ordered (take (length cs) order) cs
ordered-take {order} {cs} o =
    let n = length cs in
    let l = length-take-le n order o.count in
    record { count = omega (arith, l); few = o.few; keys = take_all n (take n order) (omega (arith, l)) ∙ o.keys }

-- rows of the first k clusters in text order: f gives a row of the byte index
abbrev pub written : (ℕ → ℕ) → List ℕ → List Cluster → List ℕ → ℕ → Type 0
written f order cs rows k = (j : ℕ) → j < k → get_or rows (place_in order j) 0 ≡ f (index_in order cs j)

module _ {order : List ℕ} {cs : List Cluster} (o : Ordered order cs) where
  len : length (indexes rounded cs) ≡ length cs
  len = indexes-length cs

  few-is : length (indexes rounded cs) ≤ 65536
  few-is = omega (arith, len)

  key_in : (k : ℕ) → k < length cs → get_or order k 0 ≡ get_or (sorted (keys_of (indexes rounded cs))) k 0
  key_in k h = sym (get_or-take (length cs) order k 0 h) ∙ ap (λ (l : List ℕ). get_or l k 0) (o.keys ∙ order-keys (indexes rounded cs) few-is)

  stands : (k : ℕ) → k < length cs → Stands (indexes rounded cs) (order_at (indexes rounded cs) k)
  stands k h = order-at (indexes rounded cs) k (omega (arith, len))

  place_is : (k : ℕ) → k < length cs → place_in order k ≡ (order_at (indexes rounded cs) k).place
  place_is k h = ap (λ (m : ℕ). m % 65536) (key_in k h) ∙ place_at (indexes rounded cs) few-is k

  pub place_inside : (k : ℕ) → k < length cs → place_in order k < length cs
  place_inside k h = omega (arith, len, place_is k h, (stands k h).inside)

  index_is : (k : ℕ) → k < length cs → index_in order cs k ≡ (order_at (indexes rounded cs) k).index
  index_is k h = ap (λ (p : ℕ). get_or (indexes rounded cs) p 0) (place_is k h) ∙ (stands k h).there

  -- the byte indexes do not fall
  pub index-rises : (k : ℕ) → k + 1 < length cs → index_in order cs k ≤ index_in order cs (k + 1)
  index-rises k h =
      let is = indexes rounded cs in
      let h₁ : suc k < length cs = omega arith in
      let l : suc k < length (sorted (keys_of is)) = omega (arith, len, sorted-length (keys_of is), keys_length is) in
      let up = ascends-at (sorted-ascends (keys_of is)) k l in
      rw (add-one k) (omega (arith, up, index_is k (omega arith), index_is (suc k) h₁, index_at is few-is k, index_at is few-is (suc k)))

  -- every place is named
  pub place-named : (i : ℕ) → i < length cs → (k : ℕ) × (k < length cs) × (place_in order k ≡ i)
  place-named i h =
      let found = key-of-place (indexes rounded cs) i few-is (omega (arith, len)) in
      let l : found.0 < length cs = omega (arith, len, found.1) in
      (found.0, l, ap (λ (m : ℕ). m % 65536) (key_in found.0 l) ∙ found.2)

  -- ---- a row for each cluster, written along the order
  module _ (f : ℕ → ℕ) where
    pub written-turn : (rows : List ℕ) (k v : ℕ) → k < length cs → length cs ≤ length rows → v ≡ f (index_in order cs k) → written f order cs rows k
        → written f order cs (set rows (place_in order k) v) (k + 1)
    written-turn rows k v h room e w j g =
        let p = place_in order k in
        let q = place_in order j in
        let same : q ≡ p → get_or (set rows p v) q 0 ≡ f (index_in order cs j) =
        λ same. rw same (get_or-set_same rows p v 0 (omega (arith, place_inside k h)) ∙ e) in
        let other : (q ≡ p → ⊥) → get_or (set rows p v) q 0 ≡ f (index_in order cs j) =
        λ apart. get_or-set_other rows p q v 0 apart ∙ w j (in_order k j (λ l. absurd (apart (ap (place_in order) (let e : j ≡ k = omega arith in e)))) (λ l. l)) in
        in_order q p (λ a. in_order p q (λ b. same (omega arith)) (λ b. other (λ e. omega arith))) (λ a. other (λ e. omega arith))

    pub written_all : (rows : List ℕ) → length cs ≤ length rows → written f order cs rows (length cs) → take (length cs) rows ≡ map f (indexes rounded cs)
    written_all rows room w =
        let l : length (take (length cs) rows) ≡ length cs = length-take-le (length cs) rows room in
        ext_get_or 0 (take (length cs) rows) (map f (indexes rounded cs)) (l ∙ sym (length-mapped f (indexes rounded cs) ∙ len)) (λ i h. at i (omega arith))
      where
        at : (i : ℕ) → i < length cs → get_or (take (length cs) rows) i 0 ≡ get_or (map f (indexes rounded cs)) i 0
        at i h =
            let named = place-named i h in
            let e : get_or rows i 0 ≡ f (get_or (indexes rounded cs) i 0) = rw named.2 at (w named.0 named.1) in
            get_or-take (length cs) rows i 0 h ∙ e ∙ sym (get_d-mapped f (indexes rounded cs) i 0 0 (omega (arith, len)))
