-- Bytes put one part after the other: what is left is still to be put, right behind what was. Assumes nothing.
use Prim.Native.Nat.{ℕ, ◌+◌, ◌≤◌, ◌<◌}
use mathlib.Core.Path.{◌≡◌, refl, sym, ap, ◌∙◌}
use mathlib.Core.List.{List, [], ◌++◌, flat_map, append_assoc}
use native.Mathlib.Numerals.{add-one}
use native.Mathlib.Omega.{arith}
use lib.ListN.{length, get_or, take, drop, length-append, drop_of_length-le}
use lib.Seq.{drop-cons, drop_at, take-append-le, take-take, length-take-le}
use Rattle.wire.specs.Splice.{splice}
use Rattle.wire.proofs.Splice.{splice-none, splice-next, length-splice}

-- what is put right before is put with it
pub splice-before : {A : Type 0} (l : List A) (at : ℕ) (a : List A) (k : ℕ) (b : List A) → k ≡ at + length a → at + (length a + length b) ≤ length l
    → splice (splice l k b) at a ≡ splice l at (a ++ b)
unfolding splice
splice-before l at a k b e h =
    let t : length (take k l) ≡ k = length-take-le k l (omega arith) in
    let rest : List _ = b ++ drop (k + length b) l in
    let front : take at (take k l ++ rest) ≡ take at l = take-append-le at (take k l) rest (omega arith) ∙ take-take at k l (omega arith) in
    let behind : drop (at + length a) (take k l ++ rest) ≡ rest = drop_at (take k l) rest (at + length a) (omega arith) in
    let n : k + length b ≡ at + length (a ++ b) = simp length-append (omega arith) in
    rw (front, behind, n) (simp append_assoc)

-- `bs` is to be put into `old` at `at`: `out` is the buffer as it stands, and `left` is still to be put, at `here`
pub record Putting {A : Type 0} (old : List A) (at : ℕ) (bs out : List A) (here : ℕ) (left : List A) : Type 0 where
  pub room : at + length bs ≤ length old
  pub size : length out ≡ length old
  pub place : here + length left ≡ at + length bs
  pub whole : splice out here left ≡ splice old at bs

module _ {A : Type 0} {old : List A} {at : ℕ} {bs : List A} where
  pub put-start : at + length bs ≤ length old → Putting old at bs old at bs
  put-start h = record { room = h; size = refl; place = refl; whole = refl }

  module _ {out : List A} {here : ℕ} {left : List A} (p : Putting old at bs out here left) where
    -- the next part, `a`, has room
    pub put-room : (a rest : List A) → left ≡ a ++ rest → here + length a ≤ length out
    put-room a rest e =
        let n : length left ≡ length a + length rest = ap length e ∙ length-append a rest in
        omega (arith, p.room, p.size, p.place)

    -- it is put
    pub put-turn : (a rest : List A) {out' : List A} {here' : ℕ} → left ≡ a ++ rest → out' ≡ splice out here a → here' ≡ here + length a → Putting old at bs out' here' rest
    put-turn a rest {out'} {here'} e eo eh =
        let n : length left ≡ length a + length rest = ap length e ∙ length-append a rest in
        let fits : here + (length a + length rest) ≤ length out = omega (arith, p.room, p.size, p.place) in
        record {
          room = p.room;
          size = ap length eo ∙ length-splice out here a (put-room a rest e) ∙ p.size;
          place = omega (arith, p.place);
          whole = ap (λ (l : List A). splice l here' rest) eo ∙ splice-next out here a here' rest eh fits ∙ ap (splice out here) (sym e) ∙ p.whole;
        }

    -- nothing is left
    pub put-done : left ≡ [] → (out ≡ splice old at bs) × (here ≡ at + length bs)
    put-done e =
        let n : length left ≡ 0 = ap length e in
        (sym (splice-none out here) ∙ ap (splice out here) (sym e) ∙ p.whole, omega (arith, p.place))

-- ---- four parts of a row, put by four calls

pub put_four : {A : Type 0} (old : List A) (at : ℕ) (a b c d : List A) {k₁ k₂ k₃ : ℕ} {o₁ o₂ o₃ o₄ : List A}
    → at + length (a ++ (b ++ (c ++ d))) ≤ length old → k₁ ≡ at + length a → k₂ ≡ k₁ + length b → k₃ ≡ k₂ + length c
    → o₁ ≡ splice old at a → o₂ ≡ splice o₁ k₁ b → o₃ ≡ splice o₂ k₂ c → o₄ ≡ splice o₃ k₃ d → o₄ ≡ splice old at (a ++ (b ++ (c ++ d)))
put_four old at a b c d room h₁ h₂ h₃ e₁ e₂ e₃ e₄ =
    let p₁ = put-turn (put-start room) a (b ++ (c ++ d)) refl e₁ h₁ in
    let p₂ = put-turn p₁ b (c ++ d) refl e₂ h₂ in
    e₄ ∙ (put-turn p₂ c d refl e₃ h₃).whole

-- ---- rows of one list, of which those from place i on are left

module _ {A B : Type 0} (write : A → List B) (xs : List A) where
  rows_next : (i : ℕ) (d : A) → i < length xs → flat_map write (drop i xs) ≡ write (get_or xs i d) ++ flat_map write (drop (i + 1) xs)
  unfolding flat_map
  rows_next i d h = rw (add-one, drop-cons xs i d h)

  rows_end : (i : ℕ) → length xs ≤ i → flat_map write (drop i xs) ≡ []
  unfolding flat_map
  rows_end i h = rw (drop_of_length-le xs h)

  abbrev pub RowsLeft : List B → ℕ → List B → ℕ → ℕ → Type 0
  RowsLeft old at out here i = Putting old at (flat_map write xs) out here (flat_map write (drop i xs))

  module _ {old : List B} {at : ℕ} {out : List B} {here : ℕ} (i : ℕ) (p : RowsLeft old at out here i) where
    pub row_room : (d : A) → i < length xs → here + length (write (get_or xs i d)) ≤ length out
    row_room d h = put-room p (write (get_or xs i d)) (flat_map write (drop (i + 1) xs)) (rows_next i d h)

    pub row-turn : (d : A) {out' : List B} {here' : ℕ} → i < length xs → out' ≡ splice out here (write (get_or xs i d)) → here' ≡ here + length (write (get_or xs i d))
        → RowsLeft old at out' here' (i + 1)
    row-turn d h eo eh = put-turn p (write (get_or xs i d)) (flat_map write (drop (i + 1) xs)) (rows_next i d h) eo eh

    pub row_done : length xs ≤ i → (out ≡ splice old at (flat_map write xs)) × (here ≡ at + length (flat_map write xs))
    row_done h = put-done p (rows_end i h)
