-- How many bytes a search looks at: up to the highest byte index of the span's own keys is what the definition says of all clusters.
-- Assumes nothing.
use Prim.Native.Nat.{ℕ, suc, ◌+◌, ◌-◌, ◌*◌, ◌/◌, ◌≤◌, ◌<◌, max}
use mathlib.Core.Path.{◌≡◌, refl, sym, ap, ◌∙◌}
use mathlib.Core.Logic.{◌⊎◌, inl, inr, ⊎_elim}
use mathlib.Core.Bool.{Bool, true, false, cond}
use mathlib.Core.List.{List, [], ◌∷◌, map}
use native.Mathlib.Omega.{arith}
use lib.ListN.{length, take, drop}
use borrow.Author.Tests.{le-leb, lt-leb, lt-ltb, le-ltb}
use Rattle.spec.specs.Lists.{any, find_idx, All}
use Rattle.spec.specs.declared.Span.{Span}
use Rattle.spec.specs.Merge.{span_contains}
use Rattle.spec.specs.Position.{entries, logical_order}
use Rattle.spec.specs.Looked.{highest, bytes_looked}
use Rattle.spec_laws.proofs.All.{first, rest, all-weaken}
use Rattle.sort.specs.Sorted.{insert_key, sorted}
use Rattle.text_order.specs.Keys.{key_of, keys_of}
use Rattle.sort.proofs.Cases.{in_order}
use Rattle.sort.proofs.Insertion.{insert-past, insert-here}
use Rattle.sort.proofs.Ascending.{Ascends, drop-ascends}
use Rattle.text_order.proofs.TextKeys.{order-keys}
use Rattle.length_adjust.specs.Marks.{below, own_keys, bytes_to}
use Rattle.length_adjust.proofs.Passed.{below-stop, below_on, not-below}

abbrev pub index_of : ℕ → ℕ
index_of key = key / 65536

keys-indexes : (k : ℕ) (is : List ℕ) → k + length is ≤ 65536 → map index_of (map key_of (entries k is)) ≡ is
unfolding entries
keys-indexes k [] h = refl
keys-indexes k (i ∷ is) h =
    let q : (i * 65536 + k) / 65536 ≡ i = omega arith in
    rw q (ap {B = List ℕ} (λ r. i ∷ r) (keys-indexes (suc k) is (omega arith)))

-- ---- the definition's number as a largest one

module _ (s : Span) where
  -- up to a byte index that the span covers, and up to the highest of them
  abbrev worth : ℕ → ℕ
  worth i = cond (span_contains s i) (i + 1 - s.start) 0

  abbrev reach : List ℕ → ℕ
  reach [] = 0
  reach (i ∷ is) = max (worth i) (reach is)

  covered : (i : ℕ) → s.start ≤ i → i < s.end → span_contains s i ≡ true
  covered i h g = rw (le-leb s.start i h, lt-ltb i s.end g)

  too-low : (i : ℕ) → i < s.start → span_contains s i ≡ false
  too-low i h = rw (lt-leb s.start i h)

  too-high : (i : ℕ) → s.end ≤ i → span_contains s i ≡ false
  too-high i h = in_order {C = span_contains s i ≡ false} s.start i (λ g. rw (le-leb s.start i g, le-ltb i s.end h)) (λ g. too-low i g)

  -- it covers none, or the number is that of the highest
  abbrev Told : List ℕ → Type 0
  Told is = ((any (span_contains s) is ≡ false) × (reach is ≡ 0) × (highest s is ≡ 0)) ⊎ ((any (span_contains s) is ≡ true) × (reach is ≡ highest s is - s.start + 1) × (s.start ≤ highest s is))

  inside : (i : ℕ) → span_contains s i ≡ true → (s.start ≤ i) × (i < s.end)
  inside i e =
      in_order s.start i
      (λ h. in_order s.end i (λ g. absurd (no (sym (too-high i g) ∙ e))) (λ g. (h, g)))
      (λ h. absurd (no (sym (too-low i h) ∙ e)))
    where
      no : false ≡ true → ⊥
      no q = let z : ◌≡◌ {A = ℕ} 0 1 = cc in omega arith

  told : (is : List ℕ) → Told is
  unfolding any highest
  told [] = inl (refl, refl, refl)
  told (i ∷ is) = go (span_contains s i) refl (told is)
    where
      go : (b : Bool) → span_contains s i ≡ b → Told is → Told (i ∷ is)
      go true e t =
          let h = (inside i e).0 in
          inr (rw e, rw e (⊎_elim (λ n. omega (arith, h, n)) (λ y. omega (arith, h, y)) t), rw e (omega arith))
      go false e t = rw e (⊎_elim (λ n. inl (n.0, omega (arith, n.1), n.2)) (λ y. inr (y.0, omega (arith, y.1), y.2)) t)

  looked-reach : (is : List ℕ) → bytes_looked s is ≡ reach is
  unfolding bytes_looked
  looked-reach is = ⊎_elim (λ n. rw n.0 (sym n.1)) (λ y. rw y.0 (sym y.1)) (told is)

  -- no byte of the span is behind its end
  reach-most : (is : List ℕ) → reach is ≤ s.end
  reach-most [] = omega arith
  reach-most (i ∷ is) = go (span_contains s i) refl (reach-most is)
    where
      go : (b : Bool) → span_contains s i ≡ b → reach is ≤ s.end → reach (i ∷ is) ≤ s.end
      go true e h = rw e (omega (arith, inside i e, h))
      go false e h = rw e (omega (arith, h))

  pub looked-most : (is : List ℕ) → bytes_looked s is ≤ s.end
  looked-most is = rw (looked-reach is) (reach-most is)

  -- ---- along keys that ascend

  -- those below the start are of no account
  reach-drop : (keys : List ℕ) → reach (map index_of (drop (below s.start keys) keys)) ≡ reach (map index_of keys)
  unfolding find_idx
  reach-drop [] = refl
  reach-drop (key ∷ keys) =
      let more = reach-drop keys in
      in_order s.start (key / 65536)
      (λ h. rw (below-stop s.start key keys h))
      (λ h. rw (below_on s.start key keys h, more, too-low (key / 65536) h) (omega arith))

  -- nor those from the end on
  reach-late : {keys : List ℕ} → All (λ key. s.end ≤ key / 65536) keys → reach (map index_of keys) ≡ 0
  reach-late All.none = refl
  reach-late (All.more {x = key} h hs) = rw (too-high (key / 65536) h, reach-late hs)

  reach-take : {keys : List ℕ} → Ascends keys → All (λ key. s.start ≤ key / 65536) keys
      → bytes_to s.start (take (below s.end keys) keys) ≡ reach (map index_of keys)
  unfolding find_idx bytes_to
  reach-take Ascends.end l = refl
  reach-take (Ascends.step {k = key} least a) l =
      let more = reach-take a (rest l) in
      in_order s.end (key / 65536)
      (λ h. rw (below-stop s.end key _ h) (sym (reach-late (All.more {x = key} h (all-weaken (λ j p. omega arith) least)))))
      (λ h. rw (below_on s.end key _ h, covered (key / 65536) (first l) h, more))

  pub own-looked : {keys : List ℕ} → Ascends keys → bytes_to s.start (own_keys s keys) ≡ bytes_looked s (map index_of keys)
  own-looked {keys} a =
      reach-take (drop-ascends (below s.start keys) a) (not-below s.start a) ∙ reach-drop keys ∙ sym (looked-reach (map index_of keys))

  -- ---- of clusters in text order, whatever order they stand in

  reach-insert : (key : ℕ) (keys : List ℕ) → reach (map index_of (insert_key key keys)) ≡ max (worth (key / 65536)) (reach (map index_of keys))
  unfolding insert_key
  reach-insert key [] = refl
  reach-insert key (j ∷ js) =
      let more = reach-insert key js in
      in_order j key
      (λ h. ap (λ (ks : List ℕ). reach (map index_of ks)) (insert-past key j js h) ∙ omega (arith, more))
      (λ h. ap (λ (ks : List ℕ). reach (map index_of ks)) (insert-here key j js h))

  reach-sorted : (keys : List ℕ) → reach (map index_of (sorted keys)) ≡ reach (map index_of keys)
  unfolding sorted
  reach-sorted [] = refl
  reach-sorted (key ∷ keys) = reach-insert key (sorted keys) ∙ ap (max (worth (key / 65536))) (reach-sorted keys)

  pub text-looked : (is : List ℕ) → length is ≤ 65536 → bytes_looked s (map index_of (map key_of (logical_order is))) ≡ bytes_looked s is
  text-looked is h =
      ap (λ (keys : List ℕ). bytes_looked s (map index_of keys)) (order-keys is h)
      ∙ looked-reach (map index_of (sorted (keys_of is))) ∙ reach-sorted (keys_of is) ∙ ap reach (keys-indexes 0 is (omega arith)) ∙ sym (looked-reach is)
