-- `merge::step::replace_first` meets its contract: skipped in two cases, else the place is marked and the glyph takes it. Assumes nothing.
use mathlib.Core.Path.{refl, ◌∙◌}
use mathlib.Core.List.{◌∷◌}
use borrow.Author.Tests.{eq-eqb, ne_eqb}
use Rattle.merge.specs.Steps.{merging_of, stamped}
use Rattle.merge.proofs.Stamps.{remembered}
use Rattle.merge.proofs.Merges.{missing, replaced, replaces, skips, stood}
use native.Mathlib.Omega.{arith}
use Rattle.merge.proofs.step.replace_first.Goals as goal

pub place_of-p-requires : goal.place_of-p-requires
place_of-p-requires c = (omega arith, omega (arith, c.search_start.ensures, c.requires.0 c.args.index))

pub returns-then-at-p : goal.returns-then-at-p
unfolding merging_of
returns-then-at-p c =
    let place = c.place_of-p in
    let a = c.args in
    let s = a.s.now in
    λ span covered. record {
      same-span = refl;
      stands = λ stamps₀ positions less known.
          rw (missing s a.rows.now a.at a.row positions (omega arith) span a.index c.requires.1 (rw c.requires.1 covered) place.result place.ensures (omega arith))
          (stood _ positions known (skips s a.rows.now a.at a.row positions (omega arith) c.of_list.result c.of_list.ensures));
    }

pub returns-then-marks-p : goal.returns-then-marks-p
unfolding merging_of
returns-then-marks-p c =
    let place = c.place_of-p in
    let a = c.args in
    let s = a.s.now in
    λ span covered. record {
      same-span = refl;
      stands = λ stamps₀ positions less known.
          rw (replaced s a.rows.now a.at a.row positions (omega arith) span a.index c.requires.1 (rw c.requires.1 covered) place.result place.ensures (omega arith)
          (remembered a.marks.now.stamp stamps₀ less positions known place.result (omega arith) ∙ eq-eqb _ a.marks.now.stamp c.if-marks-p.true))
          (stood _ positions known (skips s a.rows.now a.at a.row positions (omega arith) c.of_list-then-marks-p.result c.of_list-then-marks-p.ensures));
    }

pub returns : goal.returns
unfolding stamped
returns c =
    let place = c.place_of-p in
    let a = c.args in
    let s = a.s.now in
    λ span covered. record {
      same-span = refl;
      stands = λ stamps₀ positions less known.
          rw (replaces s a.rows.now a.at a.row positions (omega arith) span a.index c.requires.1 (rw c.requires.1 covered) place.result place.ensures (omega arith)
          (remembered a.marks.now.stamp stamps₀ less positions known place.result (omega arith) ∙ ne_eqb _ a.marks.now.stamp c.if-marks-p.false))
          (stood c.replace.result (place.result ∷ positions) (rw known) (c.replace.ensures positions));
    }
