-- Bytes put into a buffer: one after the other, and digit by digit. Assumes nothing.
use Prim.Native.Nat.{ℕ, suc, ◌+◌, ◌/◌, ◌%◌, ◌≤◌, ◌<◌}
use mathlib.Core.Path.{◌≡◌, sym, ◌∙◌, ap}
use mathlib.Core.List.{List, [], ◌∷◌, ◌++◌, append_assoc}
use native.Mathlib.Numerals.{add-one}
use native.Mathlib.Nat.{add-zero}
use native.Mathlib.Omega.{arith}
use lib.ListN.{length, take, drop, set, length-append, length-take, length-drop, take-append-drop}
use lib.Seq.{take_at, drop_at, drop-drop, take-set-le, set_split, length-take-le}
use Rattle.spec.specs.Bytes.{bytes}
use Rattle.spec_laws.proofs.Numbers.{length-bytes}
use Rattle.wire.specs.Splice.{splice}

module _ {A : Type 0} where
  pub splice-none : (l : List A) (at : ℕ) → splice l at [] ≡ l
  unfolding splice
  splice-none l at = rw (add-zero, take-append-drop)

  pub length-splice : (l : List A) (at : ℕ) (bs : List A) → at + length bs ≤ length l → length (splice l at bs) ≡ length l
  unfolding splice
  length-splice l at bs h = simp (length-append, length-take, length-drop) (omega arith)

  -- what is put right after is put with it
  pub splice-next : (l : List A) (at : ℕ) (a : List A) (k : ℕ) (b : List A) → k ≡ at + length a → at + (length a + length b) ≤ length l
      → splice (splice l at a) k b ≡ splice l at (a ++ b)
  unfolding splice
  splice-next l at a k b e h =
      let t : length (take at l) ≡ at = length-take-le at l (omega arith) in
      let n : length (take at l ++ a) ≡ k = simp length-append (omega arith) in
      let rest : List A = drop (at + length a) l in
      let x : take at l ++ (a ++ rest) ≡ (take at l ++ a) ++ rest = sym (append_assoc (take at l) a rest) in
      let f : take k ((take at l ++ a) ++ rest) ≡ take at l ++ a = take_at (take at l ++ a) rest k n in
      let m : at + length a + length b ≡ at + length (a ++ b) = simp length-append (omega arith) in
      let g : drop (k + length b) ((take at l ++ a) ++ rest) ≡ drop (at + length (a ++ b)) l =
      sym (drop-drop (length b) k ((take at l ++ a) ++ rest)) ∙ ap (drop (length b)) (drop_at (take at l ++ a) rest k n)
      ∙ drop-drop (length b) (at + length a) l ∙ ap (λ (j : ℕ). drop j l) m in
      rw (x, f, g) (simp append_assoc)

  -- the same, of lists that were put by two calls
  pub splice-then : (l : List A) (at : ℕ) (a : List A) (k : ℕ) (b : List A) {l₁ l₂ : List A} → l₁ ≡ splice l at a → l₂ ≡ splice l₁ k b
      → k ≡ at + length a → at + (length a + length b) ≤ length l → l₂ ≡ splice l at (a ++ b)
  splice-then l at a k b p q e h =
      q ∙ ap (λ (x : List A). splice x k b) p ∙ splice-next l at a k b e h

  -- one element put at the place after `a`, and then `a`
  pub splice-set : (l : List A) (at : ℕ) (a : List A) (i : ℕ) (x : A) → length a ≡ i → at + i < length l
      → splice (set l (at + i) x) at a ≡ splice l at (a ++ (x ∷ []))
  unfolding splice
  splice-set l at a i x e h =
      let n : at ≤ at + i = omega arith in
      let t : length (take (at + i) l) ≡ at + i = length-take-le (at + i) l (omega arith) in
      let m : suc (at + i) ≡ at + length (a ++ (x ∷ [])) = simp length-append (omega arith) in
      let f : drop (at + i) (set l (at + i) x) ≡ x ∷ drop (at + length (a ++ (x ∷ []))) l =
      ap (drop (at + i)) (set_split l (at + i) x h) ∙ drop_at (take (at + i) l) (x ∷ drop (suc (at + i)) l) (at + i) t
      ∙ ap (λ (j : ℕ). x ∷ drop j l) m in
      rw (take-set-le at l (at + i) x, e, f) (simp append_assoc)

-- the last byte of n put at its place, and then the others
pub bytes-put : (l : List ℕ) (at i n : ℕ) → at + i < length l → splice (set l (at + i) (n % 256)) at (bytes i (n / 256)) ≡ splice l at (bytes (i + 1) n)
unfolding bytes
bytes-put l at i n h = rw add-one (splice-set l at (bytes i (n / 256)) i (n % 256) (length-bytes i (n / 256)) h)

-- `bs` copied over as many elements from `at` on
pub copied : {A : Type 0} (l bs : List A) (at k : ℕ) → length bs ≡ k → take at l ++ (bs ++ drop k (drop at l)) ≡ splice l at bs
unfolding splice
copied {A} l bs at k e = rw (drop-drop k at l, e)
