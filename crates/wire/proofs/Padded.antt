-- Bytes with 0 for each that is missing hold the numbers that they hold without, for any count of bytes. Assumes nothing.
use Prim.Native.Nat.{ℕ, zero, suc, ◌+◌, ◌≤◌, ◌<◌}
use mathlib.Core.Path.{◌≡◌, refl, sym, ◌∙◌}
use mathlib.Core.List.{List, [], ◌∷◌}
use mathlib.Core.Logic.{⊎_elim}
use native.Mathlib.Nat.{eq-or-lt_of_le}
use native.Mathlib.Omega.{arith}
use lib.ListN.{length, get_or, drop, length-append, get_or-append}
use lib.Seq.{get_or_at, get_or-drop}
use Rattle.spec.specs.Bytes.{be, signed, float}
use Rattle.wire.specs.Padded.{padded_of}
use Rattle.wire.proofs.Digits.{be-same}

length-padded : (n : ℕ) (bs : List ℕ) → length (padded_of n bs) ≡ n
unfolding padded_of
length-padded zero bs = refl
length-padded (suc n) bs = length-append (padded_of n bs) (get_or bs n 0 ∷ []) ∙ (let e = length-padded n bs in omega arith)

-- what is missing counts as 0 already
padded-same : (n : ℕ) (bs : List ℕ) (i : ℕ) → i < n → get_or (padded_of n bs) i 0 ≡ get_or bs i 0
unfolding padded_of
padded-same zero bs i h = absurd (omega arith)
padded-same (suc n) bs i h =
    let e = length-padded n bs in
    let rest = get_or bs n 0 ∷ [] in
    ⊎_elim
    (λ (q : i ≡ n). rw q (get_or_at (padded_of n bs) (get_or bs n 0) [] 0 n e))
    (λ (l : i < n). get_or-append (padded_of n bs) rest 0 i (omega arith) ∙ padded-same n bs i l)
    (eq-or-lt_of_le (omega arith))

module _ (n : ℕ) (bs : List ℕ) (k at : ℕ) (h : at + k ≤ n) where
  pub be-padded : be k (drop at (padded_of n bs)) ≡ be k (drop at bs)
  be-padded =
      be-same k (drop at (padded_of n bs)) (drop at bs)
      (λ i l. get_or-drop at (padded_of n bs) i 0 ∙ padded-same n bs (at + i) (omega arith) ∙ sym (get_or-drop at bs i 0))

  pub signed-padded : signed k (drop at (padded_of n bs)) ≡ signed k (drop at bs)
  unfolding signed
  signed-padded = rw be-padded

pub float-padded : (n : ℕ) (bs : List ℕ) (at : ℕ) → at + 4 ≤ n → float (drop at (padded_of n bs)) ≡ float (drop at bs)
unfolding float
float-padded n bs at h = rw (be-padded n bs 4 at h)
