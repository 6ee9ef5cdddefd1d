-- The text order by its keys: which cluster is next in it, the first and the last. Assumes nothing.
use Prim.Native.Nat.{ℕ, suc, ◌+◌, ◌≤◌, ◌<◌}
use native.Mathlib.Numerals.{add-one}
use native.Mathlib.Omega.{arith}
use mathlib.Core.Path.{◌≡◌, refl, sym, ap, ◌∙◌}
use mathlib.Core.List.{List, [], ◌∷◌, ◌++◌, foldl}
use lib.Ieee.{Float}
use lib.ListN.{length, get_or, take, drop, length-take, take-append-drop, drop_of_length-le}
use lib.Seq.{drop-cons, get_or-take}
use Rattle.std.proofs.lemmas.List.{get_or_default, get_or-map}
use Rattle.spec.specs.declared.Cluster.{Cluster}
use Rattle.spec.specs.Lists.{All, get_map_or}
use Rattle.spec.specs.Single.{+0}
use Rattle.spec.specs.Arithmetic.{indexes}
use Rattle.spec.specs.Cluster.{rounded}
use Rattle.spec.specs.Position.{Entry, logical_order, first_place, last_place, character_number}
use Rattle.spec.proofs.Loops.{at_or-get}
use Rattle.text_order.specs.Keys.{key_of}
use Rattle.text_order.specs.Ordered.{Ordered}
use Rattle.text_order.proofs.Entries.{Stands, order-length, order-places}
use Rattle.text_order.proofs.KeyPlaces.{order_at, order-at}
use Rattle.text_order.proofs.TextKeys.{key-place}
use Rattle.text_order.proofs.Keys.{indexes-length}
use Rattle.text_order.proofs.Order.{place_in, place_inside, ordered-take}
use Rattle.position.specs.Given.{CharacterNumbersOf}

-- a part of the cluster at a place, whatever a read past the end gives
pub part-at : (g : Cluster → Float) (cs : List Cluster) (i : ℕ) (d : Cluster) → i < length cs → get_map_or +0 g cs i ≡ g (get_or cs i d)
part-at g cs i d h = at_or-get +0 g cs i (get_or cs i d) h (get_or_default cs i (get_or cs i d) d h)

-- ---- the first and the last of an order are of the list, if it has any

first-inside : (n : ℕ) → 0 < n → {es : List Entry} → All (λ e. e.place < n) es → first_place es < n
unfolding first_place
first-inside n h All.none = h
first-inside n h (All.more p ps) = p

last-inside : (n k : ℕ) → k < n → {es : List Entry} → All (λ e. e.place < n) es → foldl (λ (k : ℕ) (e : Entry). e.place) k es < n
last-inside n k h All.none = h
last-inside n k h (All.more {x = e} p ps) = last-inside n e.place p ps

module _ (is : List ℕ) (h : 0 < length is) where
  pub order-first : first_place (logical_order is) < length is
  order-first = first-inside (length is) h (order-places is)

  pub order-last : last_place (logical_order is) < length is
  unfolding last_place
  order-last = last-inside (length is) 0 h (order-places is)

last_of : (k : ℕ) (es : List Entry) (e : Entry) → foldl (λ (k : ℕ) (e : Entry). e.place) k (es ++ (e ∷ [])) ≡ e.place
last_of k [] e = refl
last_of k (f ∷ es) e = last_of f.place es e

-- ---- the entry at place i of the order, by its key

module _ {order : List ℕ} {cs : List Cluster} (o : Ordered order cs) where
  pub order-count : length (logical_order (indexes rounded cs)) ≡ length cs
  order-count = order-length (indexes rounded cs) ∙ indexes-length cs

  module _ (i : ℕ) (h : i < length cs) where
    abbrev es : List Entry
    es = logical_order (indexes rounded cs)

    abbrev entry : Entry
    entry = order_at (indexes rounded cs) i

    pub entry-stands : Stands (indexes rounded cs) entry
    entry-stands = order-at (indexes rounded cs) i (rw (indexes-length cs) h)

    -- what follows it
    pub entry-next : drop i es ≡ entry ∷ drop (i + 1) es
    entry-next = rw (add-one i) (drop-cons es i _ (rw order-count h))

    pub entry-place : place_in order i ≡ entry.place
    entry-place =
        let key : get_or order i 0 ≡ key_of entry = sym (get_or-take (length cs) order i 0 h) ∙ ap (λ (l : List ℕ). get_or l i 0) o.keys ∙ get_or-map key_of es i _ 0 (rw order-count h) in
        rw key (key-place entry (omega (arith, entry-stands.inside, indexes-length cs, o.few)))

  pub first-place : 0 < length cs → first_place (logical_order (indexes rounded cs)) ≡ place_in order 0
  unfolding first_place
  first-place h = ap first_place (entry-next 0 h) ∙ sym (entry-place 0 h)

  pub last-place : (i : ℕ) → suc i ≡ length cs → last_place (logical_order (indexes rounded cs)) ≡ place_in order i
  unfolding last_place
  last-place i l =
      let h : i < length cs = omega arith in
      let l₁ : length (es i h) ≤ i + 1 = omega (arith, order-count) in
      let whole : es i h ≡ take i (es i h) ++ (entry i h ∷ []) = sym (take-append-drop i (es i h)) ∙ ap (λ (r : List Entry). take i (es i h) ++ r) (entry-next i h ∙ rw (drop_of_length-le (es i h) l₁)) in
      ap last_place whole ∙ last_of 0 (take i (es i h)) (entry i h) ∙ sym (entry-place i h)

-- a key's place is one of the clusters'
pub key-inside : {order : List ℕ} {cs : List Cluster} → Ordered order cs → (i : ℕ) → i < length (take (length cs) order)
    → {place : ℕ} → place ≡ place_in (take (length cs) order) i → place < length cs
key-inside {order} {cs} o i h e = omega (arith, e, place_inside (ordered-take o) i (omega (arith, length-take (length cs) order)))

-- ---- the number of a cluster's character
module _ (text : List ℕ) (offset : ℕ) (numbers : List ℕ) (cs : List Cluster) (e : CharacterNumbersOf text offset numbers cs) where
  pub number_at : (k : ℕ) → k < length cs → get_or numbers k 0 ≡ character_number text offset (get_or (indexes rounded cs) k 0)
  number_at k h =
      sym (get_or-take (length cs) numbers k 0 h) ∙ ap (λ (l : List ℕ). get_or l k 0) e ∙ get_or-map (character_number text offset) (indexes rounded cs) k 0 0 (rw (indexes-length cs) h)

  -- clusters with the same byte indexes have the same numbers
  pub numbers-still : (ds : List Cluster) → indexes rounded ds ≡ indexes rounded cs → CharacterNumbersOf text offset numbers ds
  numbers-still ds ei =
      let n : length ds ≡ length cs = sym (indexes-length ds) ∙ ap length ei ∙ indexes-length cs in
      rw (n, ei) e
