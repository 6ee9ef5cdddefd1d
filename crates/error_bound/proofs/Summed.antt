-- What step 6 leaves to step 7, in a chunk with a text length and in one without. Assumes nothing.
use Prim.Native.Nat.{ℕ, ◌+◌, ◌*◌, ◌≤◌}
use mathlib.Core.Path.{◌≡◌, refl, ap, subst, sym}
use mathlib.Core.Bool.{false}
use mathlib.Core.List.{List, [], ◌∷◌, map, foldl}
use native.Mathlib.Nat.{le_trans, le_of_eq, mul-le-mul_right, mul-le-mul_left}
use native.Mathlib.Omega.{arith}
use lib.ListN.{length, length-map}
use Rattle.spec_laws.proofs.All.{fold-skips}
use Rattle.spec.specs.declared.Font.{Font}
use Rattle.spec.specs.declared.Span.{Span}
use Rattle.spec.specs.declared.Cluster.{Cluster}
use Rattle.spec.specs.Outcome.{given}
use Rattle.spec.specs.Lists.{any, All}
use Rattle.spec.specs.Job.{has_length}
use Rattle.spec.specs.LengthAdjust.{adjust_span}
use Rattle.spec.specs.Exact.{ExactCluster, exact, adjust_span_exactly, AllPairs}
use Rattle.error_bound.proofs.Costs.{spaced_cost, amount_cost, advances_cost}
use Rattle.error_bound.proofs.Formed.{Frame}
use Rattle.error_bound.proofs.Spaced.{Spaced, word_part}
use Rattle.error_bound.proofs.Adjusted.{Cell, sum_of, Lined}
use Rattle.error_bound.proofs.Lengths.{Adjusted, cell_of, lined-first, bodies_mass, totals}

-- the advances have at most the mass B and the error E together, and a length spacing Y and Ey
pub record Summed (fonts : List Font) (spans : List Span) (K D S g Y Ey B E : ℕ) (is : List ℕ) (cs : List Cluster) (qs : List ExactCluster) : Type 0 where
  pub from : ℕ
  pub cells : List Cell
  pub lined : Lined fonts spans K D S from Y Ey cells cs qs
  pub indexes : map exact.index qs ≡ is
  pub mass : sum_of (λ k. k.a) cells ≤ B
  pub error : sum_of (λ k. k.e) cells ≤ E
  pub few : length cells ≤ g

-- ---- with a text length

pub adjusted-summed : {fonts : List Font} {spans : List Span} {K D S g from H B L : ℕ} {is : List ℕ} {cs : List Cluster} {qs : List ExactCluster} → Adjusted fonts spans K D S g from H B L is cs qs → B + L ≤ H
    → Summed fonts spans K D S g H (amount_cost g * H) (3 * H) (advances_cost g * H) is cs qs
adjusted-summed {g = g} {from = from} a h =
    record {
      from = from;
      cells = a.cells;
      lined = a.lined;
      indexes = a.indexes;
      mass = le_trans (totals a).0 (mul-le-mul_left 3 h);
      error = le_trans (totals a).1 (mul-le-mul_left (advances_cost g) h);
      few = a.few;
    }

-- ---- without one: step 6 leaves both lists as they are

pub plain-floats : (ss : List Span) → any has_length ss ≡ false → (cs : List Cluster) → foldl adjust_span (given cs) ss ≡ given cs
unfolding adjust_span
plain-floats ss e cs = fold-skips has_length adjust_span (given cs) (λ s f. rw f) ss e

pub plain-fractions : (ss : List Span) → any has_length ss ≡ false → (qs : List ExactCluster) → foldl adjust_span_exactly qs ss ≡ qs
unfolding adjust_span_exactly
plain-fractions ss e qs = fold-skips has_length adjust_span_exactly qs (λ s f. rw f) ss e

module _ {fonts : List Font} (spans : List Span) {K D S : ℕ} (frame : Frame fonts K D S) where
  masses : (qs : List ExactCluster) → sum_of (λ k. k.a) (map (cell_of spans frame) qs) ≡ bodies_mass spans frame qs
  masses [] = refl
  masses (q ∷ qs) = ap (λ (n : ℕ). word_part fonts spans K D q.group + n) (masses qs)

  errors : {g : ℕ} {qs : List ExactCluster} → All (λ q. length q.group.glyphs ≤ g) qs → sum_of (λ k. k.e) (map (cell_of spans frame) qs) ≤ spaced_cost g * bodies_mass spans frame qs
  errors All.none = omega arith
  errors {g} (All.more {x = q} p ps) = go (length q.group.glyphs) (word_part fonts spans K D q.group) _ _ p (errors ps)
    where
      go : (m b es bs : ℕ) → m ≤ g → es ≤ spaced_cost g * bs → spaced_cost m * b + es ≤ spaced_cost g * (b + bs)
      go m b es bs h k = omega (arith, mul-le-mul_right b h)

  pub plain-summed : {g B : ℕ} {cs : List Cluster} {qs : List ExactCluster} → AllPairs (Spaced spans frame) cs qs → All (λ q. length q.group.glyphs ≤ g) qs → length qs ≤ g → bodies_mass spans frame qs ≤ B
      → Summed fonts spans K D S g 0 0 B (spaced_cost g * B) (map exact.index qs) cs qs
  plain-summed {g} {qs = qs} ps counts few h =
      record {
        from = 0;
        cells = map (cell_of spans frame) qs;
        lined = lined-first spans frame ps;
        indexes = refl;
        mass = le_trans (le_of_eq (masses qs)) h;
        error = le_trans (errors counts) (mul-le-mul_left (spaced_cost g) h);
        few = subst (λ (n : ℕ). n ≤ g) (sym (length-map qs (cell_of spans frame))) few;
      }
