-- The span's stamp at the places that are remembered, among stamps that are less. Assumes nothing.
use Prim.Native.Nat.{ℕ, ◌+◌, ◌<◌}
use mathlib.Core.Path.{◌≡◌, refl, sym}
use mathlib.Core.Bool.{Bool, true, false}
use mathlib.Core.List.{List, [], ◌∷◌}
use native.Mathlib.Omega.{arith}
use lib.Dec.{eqb}
use lib.ListN.{length, get_or, set, replicate, length-replicate, length-set, get_or-replicate}
use lib.Seq.{get_or-set_same, get_or-set_other}
use borrow.Author.Tests.{eqb-true, eqb-false, eq-eqb, ne_eqb}
use Rattle.std.specs.Prelude.{Ok}
use Rattle.std.specs.declared.result.Result.{Result}
use Rattle.spec.specs.declared.Refusal.{Refusal}
use Rattle.spec_laws.proofs.IfGiven.{of-given}
use Rattle.spec.specs.Outcome.{Outcome}
use Rattle.spec.specs.Lists.{any, elem}
use Rattle.spec.specs.declared.Glyph.{Glyph}
use Rattle.merge.specs.Merged.{merged_of}
use Rattle.merge.specs.declared.progress.Marks.{Marks}
use Rattle.merge.specs.Steps.{StampsBelow, stamped, SpanMerged}

pub below-clear : (n : ℕ) → StampsBelow 1 (replicate n 0)
below-clear n p h = let k : p < n = rw length-replicate at h in rw (get_or-replicate {A = ℕ} n p 0 0 k) (omega arith)

module _ (stamp : ℕ) where
  -- place p is stamped
  each : (stamps : List ℕ) (p : ℕ) (P : ℕ → ℕ → Type 0) → P p stamp → ((q : ℕ) → q < length stamps → (p ≡ q → ⊥) → P q (get_or stamps q 0))
      → (q : ℕ) → q < length (set stamps p stamp) → P q (get_or (set stamps p stamp) q 0)
  each stamps p P here other q k = go (eqb p q) refl (rw length-set at k)
    where
      go : (b : Bool) → eqb p q ≡ b → q < length stamps → P q (get_or (set stamps p stamp) q 0)
      go true e h = rw (← eqb-true p q e, get_or-set_same stamps p stamp 0 (rw (eqb-true p q e) h)) here
      go false e h = rw (get_or-set_other stamps p q stamp 0 (λ same. eqb-false p q e (sym same))) (other q h (eqb-false p q e))

  -- some places of stamps that are less are stamped
  module _ (stamps : List ℕ) (less : StampsBelow stamp stamps) where
    below-stamped : (ps : List ℕ) → StampsBelow (stamp + 1) (stamped stamp ps stamps)
    unfolding stamped
    below-stamped [] p h = omega (arith, less p h)
    below-stamped (p ∷ ps) q h = each (stamped stamp ps stamps) p (λ q m. m < stamp + 1) (omega arith) (λ r k other. below-stamped ps r k) q h

    among-stamped : (ps : List ℕ) (p : ℕ) → p < length (stamped stamp ps stamps) → elem p ps ≡ eqb (get_or (stamped stamp ps stamps) p 0) stamp
    unfolding any stamped
    among-stamped [] p h = sym (ne_eqb (get_or stamps p 0) stamp (λ same. omega (arith, less p h, same)))
    among-stamped (p ∷ ps) q h =
        each (stamped stamp ps stamps) p (λ q m. elem q (p ∷ ps) ≡ eqb m stamp)
        (rw (eq-eqb p p refl, eq-eqb stamp stamp refl))
        (λ r k other. rw (ne_eqb p r other) (among-stamped ps r k))
        q h

    pub remembered : (ps : List ℕ) {stamps₁ : List ℕ} → stamps₁ ≡ stamped stamp ps stamps → (p : ℕ) → p < length stamps₁ → elem p ps ≡ eqb (get_or stamps₁ p 0) stamp
    remembered ps e p = rw e (among-stamped ps p)

-- after a span's merge that was not refused
pub ended-below : {r : Result ℕ Refusal} {s rows places : List ℕ} {marks marks₁ : Marks} {n : ℕ} {o : Outcome (List Glyph)} → SpanMerged r s rows marks marks₁ places o → r ≡ Ok n
    → StampsBelow marks.stamp marks.stamps → StampsBelow (marks₁.stamp + 1) marks₁.stamps
unfolding merged_of
ended-below {places = places} ended e less = rw (ended.same-span, of-given _ _ _ ended.marked (sym (rw e at ended.is))) (below-stamped _ _ less places)
