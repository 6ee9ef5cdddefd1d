-- Characters counted along the text order. Assumes nothing.
use Prim.Native.Nat.{ℕ, zero, suc, ◌+◌, ◌≤◌, ◌<◌}
use mathlib.Core.Path.{◌≡◌, refl, sym, ap, ◌∙◌}
use mathlib.Core.Bool.{Bool, true, false, cond}
use mathlib.Core.List.{List, [], ◌∷◌, ◌++◌}
use native.Mathlib.Numerals.{add-one}
use native.Mathlib.Omega.{arith}
use lib.ListN.{length, get_or, take, drop, length-take, take-append-drop}
use lib.Seq.{take-take}
use Rattle.spec.specs.Utf8.{continues, characters, code_point_at}
use Rattle.spec.specs.Position.{character_number}
use Rattle.spec.specs.declared.Cluster.{Cluster}
use Rattle.text_order.specs.Ordered.{Ordered}
use Rattle.text_order.proofs.Keys.{indexes-at}
use Rattle.text_order.proofs.Order.{place_in, index_in, place_inside}

-- ---- characters of a part

pub characters-append : (a b : List ℕ) → characters (a ++ b) ≡ characters a + characters b
unfolding characters
characters-append [] b = omega arith
characters-append (x ∷ a) b = rw (characters-append a b) (omega arith)

bit-small : (b : Bool) → cond b 0 1 ≤ 1
bit-small true = omega arith
bit-small false = omega arith

pub characters-few : (a : List ℕ) → characters a ≤ length a
unfolding characters
characters-few [] = omega arith
characters-few (x ∷ a) = omega (arith, characters-few a, bit-small (continues x))

-- one byte more is counted
counted-next : (bs : List ℕ) (i : ℕ) → i < length bs → characters (take (suc i) bs) ≡ characters (take i bs) + cond (continues (get_or bs i 0)) 0 1
unfolding characters
counted-next [] i h = absurd (omega arith)
counted-next (b ∷ bs) zero h = omega arith
counted-next (b ∷ bs) (suc i) h = omega (arith, counted-next bs i (omega arith))

pub counted-turn : (bs : List ℕ) (i : ℕ) → i < length bs → characters (take (i + 1) bs) ≡ characters (take i bs) + cond (continues (get_or bs i 0)) 0 1
counted-turn bs i h = rw add-one (counted-next bs i h)

pub none_before : (text : List ℕ) → code_point_at text 0 ≡ 0
unfolding code_point_at characters
none_before text = refl

module _ (text : List ℕ) where
  front-few : (end : ℕ) → code_point_at text end ≤ length text
  unfolding code_point_at
  front-few end = omega (arith, characters-few (take end text), length-take end text)

  -- from `at` on to `end`
  characters-to : (at end : ℕ) → at ≤ end → characters (take at text) + characters (drop at (take end text)) ≡ characters (take end text)
  characters-to at end h =
      let e : take at (take end text) ≡ take at text = take-take at end text h in
      rw (← e) (sym (characters-append (take at (take end text)) (drop at (take end text))) ∙ ap characters (take-append-drop at (take end text)))

  next-number : (offset at end number count : ℕ) → number ≡ character_number text offset at → at ≤ end → count ≡ characters (drop at (take end text))
      → number + count ≡ character_number text offset end
  unfolding code_point_at
  next-number offset at end number count e h f = omega (arith, characters-to at end h)

-- ---- the number of the next cluster in text order: the walk stands at byte `at` with its number
module _ (text : List ℕ) {order : List ℕ} {cs : List Cluster} (o : Ordered order cs) (offset at k : ℕ) where
  pub record Next (end next : ℕ) : Type 0 where
    pub there : end ≡ index_in order cs k
    pub number : next ≡ character_number text offset end
    pub small : next ≤ offset + length text

  pub walk-next : k < length cs → (k < length cs → at ≤ index_in order cs k) → {end number count : ℕ} (c : Cluster) → end ≡ (get_or cs (place_in order k) c).index
      → number ≡ character_number text offset at → count ≡ characters (drop at (take end text)) → Next end (number + count)
  walk-next h up {end} {number} {count} c e en ec =
      let there : end ≡ index_in order cs k = e ∙ sym (indexes-at cs (place_in order k) c (place_inside o k h)) in
      let next = next-number text offset at end number count en (omega (arith, up h, there)) ec in
      record { there = there; number = next; small = omega (arith, next, front-few text end) }
