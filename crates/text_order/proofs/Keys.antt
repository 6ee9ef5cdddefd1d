-- The keys of clusters, written one after the other. Assumes nothing.
use Prim.Native.Nat.{ℕ, zero, suc, ◌+◌, ◌*◌, ◌≤◌, ◌<◌}
use mathlib.Core.Path.{◌≡◌, refl, sym, ap, ◌∙◌}
use mathlib.Core.Bool.{true, false}
use mathlib.Core.List.{List, [], ◌∷◌, ◌++◌, map}
use native.Mathlib.Numerals.{add-one}
use native.Mathlib.Nat.{le_of_suc-le-suc, not-suc-le-zero}
use lib.Dec.{ltb}
use lib.Ieee.{nan}
use lib.ListN.{length, get_or, set, take}
use lib.Seq.{take-suc, take-suc-set, take_all, take_at}
use borrow.Author.Tests.{ltb-true}
use Rattle.spec.specs.Lists.{all}
use Rattle.spec_laws.proofs.All.{all-at}
use Rattle.spec.specs.declared.Cluster.{Cluster}
use Rattle.spec.specs.Arithmetic.{indexes}
use Rattle.spec.specs.Cluster.{rounded}
use Rattle.spec.specs.Position.{logical_order}
use Rattle.sort.specs.Sorted.{sorted}
use Rattle.text_order.specs.Keys.{key_of, keys_of}
use Rattle.sort.proofs.Insertion.{sorted-length}
use Rattle.text_order.proofs.TextKeys.{keys-at, keys_length, order-keys}

-- ---- the byte indexes of clusters

pub length-mapped : {A B : Type 0} (f : A → B) (l : List A) → length (map f l) ≡ length l
length-mapped f [] = refl
length-mapped f (x ∷ l) = ap suc (length-mapped f l)

pub get_d-mapped : {A B : Type 0} (f : A → B) (l : List A) (i : ℕ) (a : A) (b : B) → i < length l → get_or (map f l) i b ≡ f (get_or l i a)
get_d-mapped f [] i a b h = absurd (not-suc-le-zero h)
get_d-mapped f (x ∷ l) zero a b h = refl
get_d-mapped f (x ∷ l) (suc i) a b h = get_d-mapped f l i a b (le_of_suc-le-suc h)

-- what a read past the end would give
abbrev pub blank : Cluster
blank =
    record {
      index = 0;
      tag = 0;
      upright = false;
      span = 0;
      from = 0;
      count = 0;
      relative = false;
      scaled = false;
      rotated = false;
      collapsed = false;
      width = nan;
      advance = nan;
      spacing = nan;
      ascent = nan;
      descent = nan;
      nudge = nan;
      scale = nan;
      x = nan;
      y = nan;
      angle = nan;
    }

module _ (cs : List Cluster) where
  pub indexes-length : length (indexes rounded cs) ≡ length cs
  indexes-length = length-mapped (λ (c : Cluster). c.index) cs

  pub indexes-at : (i : ℕ) (c : Cluster) → i < length cs → get_or (indexes rounded cs) i 0 ≡ (get_or cs i c).index
  indexes-at i c h = get_d-mapped (λ (c : Cluster). c.index) cs i c 0 h

  pub index-small : all (λ (i : ℕ). ltb i 65536) (indexes rounded cs) ≡ true → (i : ℕ) (c : Cluster) → i < length cs → (get_or cs i c).index < 65536
  index-small e i c h =
      let l : i < length (indexes rounded cs) = rw indexes-length h in
      ltb-true _ _ (rw (indexes-at i c h) at (all-at (λ (j : ℕ). ltb j 65536) (indexes rounded cs) i 0 e l))

-- ---- the next key
module _ (is : List ℕ) where
  pub key-turn : (l : List ℕ) (i v : ℕ) → i < length l → i < length is → v ≡ get_or is i 0 * 65536 + i → take i l ≡ take i (keys_of is)
      → take (i + 1) (set l i v) ≡ take (i + 1) (keys_of is)
  key-turn l i v h g e f =
      let k : i < length (keys_of is) = rw (keys_length is) g in
      rw (add-one i, take-suc-set l i v, take-suc (keys_of is) i 0, keys-at is i g, e, f)

  pub keys-done : (i : ℕ) → length is ≤ i → take i (keys_of is) ≡ keys_of is
  keys-done i h = take_all i (keys_of is) (rw (keys_length is) h)

-- ---- the first keys of a list sorted in place
pub front-sorted : (is front keys rest : List ℕ) (n : ℕ) → length is ≤ 65536 → n ≡ length is → front ≡ keys_of is → keys ≡ sorted front
    → take n (keys ++ rest) ≡ map key_of (logical_order is)
front-sorted is front keys rest n few e f s =
    let k : keys ≡ sorted (keys_of is) = rw f at s in
    let l : n ≡ length (sorted (keys_of is)) = e ∙ sym (sorted-length (keys_of is) ∙ keys_length is) in
    rw (order-keys is few, k) (take_at (sorted (keys_of is)) rest n (sym l))
