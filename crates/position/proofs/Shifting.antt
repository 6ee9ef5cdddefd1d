-- One turn of the loop that shifts the clusters along the text order, and its end; and clusters that are turned. Assumes nothing.
use Prim.Native.Nat.{ℕ, ◌+◌, ◌<◌}
use mathlib.Core.Path.{◌≡◌, refl, sym, ap, ◌∙◌}
use mathlib.Core.List.{List, [], ◌∷◌, map, foldl}
use native.Mathlib.Omega.{arith}
use lib.Dec.{eqb}
use lib.Ieee.{Float}
use lib.ListN.{length, get_or, set, drop}
use Rattle.std.proofs.lemmas.List.{get_or_default}
use Rattle.spec_laws.proofs.All.{cond-keeps}
use Rattle.spec.specs.declared.Cluster.{Cluster}
use Rattle.spec.specs.Lists.{modify}
use Rattle.spec.specs.Single.{◌+ᶠ◌, +0}
use Rattle.spec.specs.Job.{Job, top_to_bottom}
use Rattle.spec.specs.Arithmetic.{indexes}
use Rattle.spec.specs.Position.{Entry, Shifting, logical_order, character_number, shift_next, rotate_shift, rotate_shifts}
use Rattle.spec.specs.Cluster.{rounded}
use Rattle.spec.proofs.Loops.{modify-set}
use Rattle.text_order.specs.Ordered.{Ordered}
use Rattle.text_order.proofs.KeyPlaces.{order_at}
use Rattle.text_order.proofs.Keys.{blank}
use Rattle.text_order.proofs.Order.{place_in, place_inside}
use Rattle.position.specs.Given.{CharacterNumbersOf}
use Rattle.position.proofs.TextOrder.{entry-stands, entry-next, entry-place, number_at}

-- ---- along the text order of the clusters cs

module _ (job : Job) (text : List ℕ) (offset : ℕ) (cs : List Cluster) where
  abbrev order_of : List Entry
  order_of = logical_order (indexes rounded cs)

  abbrev next : Shifting Float Cluster → Entry → Shifting Float Cluster
  next = shift_next rounded job text offset

  abbrev state : Float → Float → List Cluster → Shifting Float Cluster
  state x y ds = record { x = x; y = y; clusters = ds }

  -- what becomes of sums and clusters once those from place i of the order on have taken their shifts
  abbrev pub shifted : Float → Float → List Cluster → ℕ → Shifting Float Cluster
  shifted x y ds i = foldl next (state x y ds) (drop i order_of)

  -- the cluster whose turn it is stands at `place`, and k is the number of its character
  pub shift-turn : {order : List ℕ} (numbers : List ℕ) (x y : Float) (ds : List Cluster) (i : ℕ) (x' y' : Float) (place k : ℕ)
      → Ordered order cs → CharacterNumbersOf text offset numbers cs → length ds ≡ length cs → i < length cs
      → place ≡ place_in order i → k ≡ get_or numbers place 0 → x' ≡ x +ᶠ get_or job.dx k +0 → y' ≡ y +ᶠ get_or job.dy k +0
      → shifted x' y' (set ds place (rounded.with_shift x' y' (get_or ds place blank))) (i + 1) ≡ shifted x y ds i
  unfolding shift_next
  shift-turn {order} numbers x y ds i x' y' place k o en l h ep ek ex ey =
      ap (λ (st : Shifting Float Cluster). foldl next st (drop (i + 1) order_of)) one ∙ sym (ap (foldl next (state x y ds)) (entry-next o i h))
    where
      entry : Entry
      entry = order_at (indexes rounded cs) i

      at : place ≡ entry.place
      at = ep ∙ entry-place o i h

      inside : place < length cs
      inside = omega (arith, ep, place_inside o i h)

      number : k ≡ character_number text offset entry.index
      number = ek ∙ number_at text offset numbers cs en place inside ∙ ap (character_number text offset) (rw at (entry-stands o i h).there)

      stored : set ds place (rounded.with_shift x' y' (get_or ds place blank)) ≡ modify (rounded.with_shift x' y') ds place
      stored =
          let d = get_or ds place blank in
          sym (modify-set (rounded.with_shift x' y') ds place d (omega (arith, inside, l)) (get_or_default ds place d blank (omega (arith, inside, l))))

      one : state x' y' (set ds place (rounded.with_shift x' y' (get_or ds place blank))) ≡ next (state x y ds) entry
      one = rw (stored, ex, ey, number, at)

-- ---- clusters that are turned keep their byte indexes

turn-indexes : (cs : List Cluster) → indexes rounded (map (rotate_shift rounded) cs) ≡ indexes rounded cs
unfolding rotate_shift
turn-indexes [] = refl
turn-indexes (c ∷ cs) = ap {B = List ℕ} (λ is. c.index ∷ is) (turn-indexes cs)

pub turned-indexes : (mode : ℕ) (cs : List Cluster) {turned : List Cluster} → turned ≡ rotate_shifts rounded mode cs → indexes rounded turned ≡ indexes rounded cs
unfolding rotate_shifts
turned-indexes mode cs e = rw e (cond-keeps (λ (ds : List Cluster). indexes rounded ds ≡ indexes rounded cs) (eqb mode top_to_bottom) (turn-indexes cs) refl)
