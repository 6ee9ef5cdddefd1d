-- `merge::step::merge_glyph` meets its contract. Assumes nothing.
use mathlib.Core.Path.{refl, sym, ◌∙◌}
use Rattle.merge.specs.Steps.{merging_of}
use Rattle.merge.proofs.Merges.{glyph-owed, glyph-free, outside, skips, stood}
use native.Mathlib.Omega.{arith}
use Rattle.merge.proofs.step.merge_glyph.Goals as goal

pub returns-then-at-gt0 : goal.returns-then-at-gt0
returns-then-at-gt0 c =
    let a = c.args in
    let s = a.s.now in record {
      same-span = refl;
      stands = λ stamps₀ positions less known.
          rw (glyph-owed s a.rows.now a.at a.row positions (omega arith) a.span (omega arith))
          (stood c.insert_next.result positions known (c.insert_next.ensures s positions));
    }

pub returns-then-not-covered : goal.returns-then-not-covered
unfolding merging_of
returns-then-not-covered c =
    let covered = c.span_contains-covered in
    let index = c.index_at-index in
    let a = c.args in
    let s = a.s.now in record {
      same-span = refl;
      stands = λ stamps₀ positions less known.
          rw (
            glyph-free s a.rows.now a.at a.row positions (omega arith) a.span (omega arith),
            outside s a.rows.now a.at a.row positions (omega arith) a.span index.result index.ensures (sym covered.ensures ∙ c.if-not-covered.true),
          )
          (stood _ positions known (skips s a.rows.now a.at a.row positions (omega arith) c.of_list.result c.of_list.ensures));
    }

pub returns : goal.returns
returns c =
    let covered = c.span_contains-covered in
    let index = c.index_at-index in
    let a = c.args in
    let s = a.s.now in
    let is-covered = sym covered.ensures ∙ c.if-not-covered.false in
    let did = c.replace_first.ensures a.span (rw (← index.ensures) is-covered) in record {
      same-span = did.same-span;
      stands = λ stamps₀ positions less known.
          rw (glyph-free s a.rows.now a.at a.row positions (omega arith) a.span (omega arith))
          (did.stands stamps₀ positions less known);
    }
