-- The marks say which clusters take part: those that the span covers, and of one byte index only the first. Assumes nothing.
use Prim.Native.Nat.{ℕ, zero, suc, ◌+◌, ◌-◌, ◌*◌, ◌%◌, ◌≤◌, ◌<◌}
use mathlib.Core.Path.{◌≡◌, refl, sym, ap, ap₂, ◌∙◌}
use mathlib.Core.Bool.{Bool, true, false, not, cond, ◌||◌, ◌&&◌}
use mathlib.Core.List.{List, [], ◌∷◌, map}
use native.Mathlib.Nat.{le_refl}
use native.Mathlib.Omega.{arith}
use lib.ListN.{length, set, replicate}
use lib.Seq.{take_all}
use lib.Dec.{eqb, leb, ltb}
use borrow.Author.Tests.{eq-eqb, ne_eqb, lt-ltb, le-ltb, le-leb, lt-leb}
use Rattle.spec.specs.Lists.{all, any, elem, find_idx, All}
use Rattle.spec.specs.declared.Span.{Span}
use Rattle.spec.specs.Position.{entries, logical_order}
use Rattle.spec.specs.LengthAdjust.{places_from, cluster_indexes}
use Rattle.spec.specs.Looked.{bytes_looked}
use Rattle.spec_laws.proofs.All.{all-weaken, all_true}
use Rattle.spec.specs.declared.Cluster.{Cluster}
use Rattle.spec.specs.Arithmetic.{indexes}
use Rattle.spec.specs.Cluster.{rounded}
use Rattle.sort.specs.Sorted.{ascending}
use Rattle.text_order.specs.Keys.{key_of, keys_of}
use Rattle.text_order.specs.Ordered.{Ordered}
use Rattle.sort.proofs.Cases.{in_order}
use Rattle.sort.proofs.Insertion.{all-sorted}
use Rattle.sort.proofs.Ascending.{sorted-ascends, ascending-of-ascends}
use Rattle.text_order.proofs.TextKeys.{order-keys}
use Rattle.text_order.proofs.Keys.{indexes-length}
use Rattle.length_adjust.specs.declared.range.Range.{Range}
use Rattle.length_adjust.specs.Marks.{marked_from, marked, marked_in, mark, taking_part}
use Rattle.length_adjust.proofs.Cases.{same_or_not}
use Rattle.length_adjust.proofs.Firsts.{up_from, found-places}
use Rattle.length_adjust.proofs.Bytes.{index_of, text-looked, looked-most}

-- 1 for each byte index that takes part where a span goes from lo to hi; `seen` came before
abbrev takes : ℕ → ℕ → List ℕ → ℕ → Bool
takes lo hi seen i = (leb lo i && ltb i hi) && not (elem i seen)

abbrev marks_to : ℕ → ℕ → List ℕ → List ℕ → List ℕ
marks_to lo hi seen [] = []
marks_to lo hi seen (i ∷ is) = cond (takes lo hi seen i) 1 0 ∷ marks_to lo hi (i ∷ seen) is

-- ---- they are the definition's places

places-marked : (s : Span) (seen : List ℕ) (k : ℕ) (is : List ℕ) → marked_from k (marks_to s.start s.end seen is) ≡ places_from s seen k is
unfolding marked_from places_from
places-marked s seen k [] = refl
places-marked s seen k (i ∷ is) = go (takes s.start s.end seen i) (places-marked s (i ∷ seen) (k + 1) is)
  where
    go : (b : Bool) {xs ys : List ℕ} → xs ≡ ys → cond (eqb (cond b 1 0) 1) (k ∷ xs) xs ≡ cond b (k ∷ ys) ys
    go true e = ap {B = List ℕ} (λ r. k ∷ r) e
    go false e = e

-- ---- none before the first byte index, and one more with each

no-marks : (lo hi : ℕ) → hi ≤ lo → (seen is : List ℕ) → marks_to lo hi seen is ≡ replicate (length is) 0
no-marks lo hi h seen [] = refl
no-marks lo hi h seen (i ∷ is) = ap₂ {C = List ℕ} (λ b bs. b ∷ bs) none (no-marks lo hi h (i ∷ seen) is)
  where
    none : ◌≡◌ {A = ℕ} (cond (takes lo hi seen i) 1 0) 0
    none = in_order {C = ◌≡◌ {A = ℕ} (cond (takes lo hi seen i) 1 0) 0} lo i (λ l. rw (le-ltb i hi (omega arith), le-leb lo i l)) (λ l. rw (lt-leb lo i l))

and-false : (b : Bool) → b && false ≡ false
and-false true = refl
and-false false = refl

or-true : (b : Bool) → b || true ≡ true
or-true true = refl
or-true false = refl

module _ (lo b : ℕ) where
  -- another byte index
  takes-other : (seen : List ℕ) (i : ℕ) → (i ≡ b → ⊥) → takes lo (b + 1) seen i ≡ takes lo b seen i
  takes-other seen i e =
      in_order b i (λ h. rw (le-ltb i b h, le-ltb i (b + 1) (omega arith))) (λ h. rw (lt-ltb i b h, lt-ltb i (b + 1) (omega arith)))

  -- the byte index itself, once it was seen
  takes-seen : (seen : List ℕ) (hi : ℕ) → elem b seen ≡ true → takes lo hi seen b ≡ false
  takes-seen seen hi e = rw e (and-false (leb lo b && ltb b hi))

  marks-seen : (seen is : List ℕ) → elem b seen ≡ true → marks_to lo (b + 1) seen is ≡ marks_to lo b seen is
  unfolding any
  marks-seen seen [] e = refl
  marks-seen seen (i ∷ is) e =
      let same : takes lo (b + 1) seen i ≡ takes lo b seen i =
      same_or_not i b (λ q. rw q (takes-seen seen (b + 1) e ∙ sym (takes-seen seen b e))) (takes-other seen i) in
      let more = marks-seen (i ∷ seen) is (rw e (or-true (eqb i b))) in
      rw (same, more)

  -- and where it was not: the first cluster of byte index b is marked
  marks-more : lo ≤ b → (seen is : List ℕ) → elem b seen ≡ false
      → set (marks_to lo b seen is) (find_idx (λ (j : ℕ). eqb j b) is) 1 ≡ marks_to lo (b + 1) seen is
  unfolding any find_idx
  marks-more l seen [] e = refl
  marks-more l seen (i ∷ is) e =
      let more = marks-more l (i ∷ seen) is in
      same_or_not i b
      (λ q. let here : eqb b b ≡ true = eq-eqb b b refl in
      let covered : takes lo (b + 1) seen b ≡ true = rw (le-leb lo b l, lt-ltb b (b + 1) (omega arith), e) in
      rw (q, here, covered) (ap {B = List ℕ} (λ r. 1 ∷ r) (sym (marks-seen (b ∷ seen) is (rw here)))))
      (λ q. let other : eqb i b ≡ false = ne_eqb i b q in
      rw (other, more (rw other e), takes-other seen i q))

-- ---- all byte indexes of a span

module _ (is : List ℕ) where
  abbrev first_place : ℕ → ℕ
  first_place b = find_idx (λ (j : ℕ). eqb j b) is

  marks-span : (lo m b : ℕ) → lo ≤ b → mark (marks_to lo b [] is) (up_from first_place b m) ≡ marks_to lo (b + m) [] is
  unfolding any
  marks-span lo zero b h = let e : b + 0 ≡ b = omega arith in rw e
  marks-span lo (suc m) b h =
      let e : b + suc m ≡ b + 1 + m = omega arith in
      ap (λ (ms : List ℕ). mark ms (up_from first_place (b + 1) m)) (marks-more lo b h [] is refl) ∙ rw e (marks-span lo m (b + 1) (omega arith))

  marks-are : (lo hi : ℕ) → mark (replicate (length is) 0) (up_from first_place lo (hi - lo)) ≡ marks_to lo hi [] is
  marks-are lo hi =
      in_order lo hi
      (λ h. let e : lo + (hi - lo) ≡ hi = omega arith in
      rw (← (no-marks lo lo (le_refl lo) [] is)) (rw e at (marks-span lo (hi - lo) lo (le_refl lo))))
      (λ h. let e : hi - lo ≡ 0 = omega arith in
      rw e (sym (no-marks lo hi (omega arith) [] is)))

-- the marks of the clusters of byte indexes `is`, found along their text order
taking-part : (s : Span) (is keys : List ℕ) → length is ≤ 65536 → keys ≡ map key_of (logical_order is)
    → marked (taking_part s keys (length is)) ≡ places_from s [] 0 is
taking-part s is keys h e =
    rw (e, order-keys is h, found-places is s.start (s.end - s.start) h, marks-are is s.start s.end) (places-marked s [] 0 is)

keys-places : (k n : ℕ) (is : List ℕ) → k + length is ≤ n → n ≤ 65536 → All (λ key. key % 65536 < n) (map key_of (entries k is))
unfolding entries
keys-places k n [] h g = All.none
keys-places k n (i ∷ is) h g = All.more {x = i * 65536 + k} (omega arith) (keys-places (suc k) n is (omega arith) g)

-- ---- the same of clusters

-- what a search for a span's clusters came to: those that take part are marked, and the bytes that were looked at are counted
pub record Found (s : Span) (cs : List Cluster) (within : Range) (marks : List ℕ) (looked : ℕ) : Type 0 where
  pub places : marked_in within marks ≡ cluster_indexes rounded s cs
  pub bytes : looked ≡ bytes_looked s (indexes rounded cs)
  pub most : looked ≤ s.end

module _ {keys : List ℕ} {cs : List Cluster} (all-keys : length keys ≡ length cs) (o : Ordered keys cs) where
  order_is : keys ≡ map key_of (logical_order (indexes rounded cs))
  order_is = sym (take_all (length cs) keys (omega arith)) ∙ o.keys

  few-indexes : length (indexes rounded cs) ≤ 65536
  few-indexes = rw (indexes-length cs) o.few

  pub order-ascends : ascending keys ≡ true
  order-ascends = rw (order_is, order-keys (indexes rounded cs) few-indexes) (ascending-of-ascends (sorted-ascends (keys_of (indexes rounded cs))))

  pub order-places : all (λ (key : ℕ). ltb (key % 65536) (length cs)) keys ≡ true
  order-places =
      rw (order_is, order-keys (indexes rounded cs) few-indexes)
      (all_true _ (all-weaken (λ key p. lt-ltb (key % 65536) (length cs) p) (all-sorted (keys-places 0 (length cs) (indexes rounded cs) (rw (indexes-length cs) (omega arith)) o.few))))

  pub order-found : (s : Span) {within : Range} {marks : List ℕ} {looked n : ℕ} → n ≡ length cs → looked ≡ bytes_looked s (map index_of keys)
      → marked_in within marks ≡ marked (taking_part s keys n) → Found s cs within marks looked
  order-found s {n = n} e l m =
      let is = indexes rounded cs in
      record {
        places = m ∙ ap (λ (k : ℕ). marked (taking_part s keys k)) (e ∙ sym (indexes-length cs)) ∙ taking-part s is keys few-indexes order_is;
        bytes = l ∙ ap (λ (ks : List ℕ). bytes_looked s (map index_of ks)) order_is ∙ text-looked s is few-indexes;
        most = omega (arith, l, looked-most s (map index_of keys));
      }
