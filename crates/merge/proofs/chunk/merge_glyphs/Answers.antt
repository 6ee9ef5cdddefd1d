use Prim.Native.Nat.{ℕ, ◌+◌, ◌-◌, ◌*◌, ◌<◌}
use mathlib.Core.Path.{◌≡◌, refl, ◌∙◌}
use mathlib.Core.List.{List, []}
use lib.ListN.{drop}
use borrow.Author.Rules.{rules}
use Rattle.std.specs.Prelude.{Err}
use Rattle.std.specs.declared.result.Result.{Result}
use Rattle.spec.specs.Outcome.{Outcome, given}
use Rattle.spec.specs.declared.Refusal.{Refusal}
use Rattle.spec.specs.declared.Span.{Span}
use Rattle.spec.specs.Decode.{glyph_of}
use Rattle.spec.specs.Merge.{Merging, merge_glyph}
use Rattle.merge.specs.Merged.{glyphs_in, merged_into}
use Rattle.merge.specs.Buckets.{Table, seen}
use Rattle.merge.specs.declared.progress.Marks.{Marks}
use Rattle.merge.specs.Steps.{stamped, merging_at, Stepped}
use Rattle.merge.specs.declared.progress.Progress.{Progress}
use Rattle.merge.proofs.Moved.{glyphs-count}
use Rattle.merge.proofs.Places.{next_known}
use Rattle.merge.proofs.LoopSteps.{Turn, left-on, step_after, left-halted, left-done}
use native.Mathlib.Omega.{arith}
use Rattle.merge.proofs.chunk.merge_glyphs.Goals as goal
use Rattle.merge.proofs.chunk.merge_glyphs.Invariants.{Going}

-- the glyph that is merged in this turn
turn : {s : List ℕ} {span : Span} {marks₀ : Marks} {all : Outcome Merging} {rows rows₁ : List ℕ} {marks marks₁ : Marks} {t : Table} {at : Progress} {row left : ℕ} {r : Result Progress Refusal}
    → Going s span marks₀ all rows marks t at row left → 0 < left
    → Stepped r s rows₁ marks marks₁ (λ positions. merge_glyph span (given (merging_at at s rows positions)) (glyph_of (drop row s)))
    → Turn s span marks₀.stamp marks₀.stamps all rows rows₁ marks.stamps marks₁.stamps at row left r
turn {marks₀ = marks₀} inv some did = record {
  left = inv.rest;
  some = some;
  did = (rw inv.same-span at did.stands) marks₀.stamps inv.rest.positions inv.earlier inv.rest.marked;
}

pub loop-k-init : goal.loop-k-init
unfolding stamped
loop-k-init c =
    let a = c.args in
    let begun = c.of_list-at.ensures in
    let first : a.own.first + 0 ≡ a.own.first = omega arith in
    let all : a.own.count - 0 ≡ a.own.count = omega arith in
    rw (first, all)
    record {
      room = omega arith;
      known = rw begun.0 c.requires.1;
      same-span = refl;
      earlier = c.requires.0.earlier;
      rest = record { positions = []; marked = refl; rest = rw (begun.0, begun.1, begun.2) };
      fresh = omega arith;
    }

pub returns-in_err-next : goal.returns-in_err-next
returns-in_err-next c =
    let l = c.loop-k in
    let did = rw c.row-row.ensures at c.merge_glyph.ensures in
    let ends = left-halted (turn l.invariant (omega (arith, c.loop-k-test.true)) did) c.in_err-next.field-0.0 c.in_err-next.was in
    let same : c.from_residual.result ≡ Err c.in_err-next.field-0.0 = search rules in
    rw same record { same-span = did.same-span ∙ l.invariant.same-span; marked = ends.marked; held = tt; is = ends.is }

pub loop-k-preserved : goal.loop-k-preserved
loop-k-preserved c =
    let a = c.args in
    let l = c.loop-k in
    let s = a.s.now in
    let index = c.index_at in
    let at₁ = c.in_ok-next.next in
    let rows₁ = c.merge_glyph.new.rows in
    let row = a.own.first + l.k * 25 in
    let did = rw c.row-row.ensures at c.merge_glyph.ensures in
    let t = turn l.invariant (omega (arith, c.loop-k-test.true)) did in
    let on = left-on t at₁ c.in_ok-next.was in
    let table₁ = next_known _ (glyph_of (drop row s)) (glyphs_in s rows₁ at₁.count) (step_after t at₁ c.in_ok-next.was) (seen l.table) l.invariant.known
    l.at.count at₁.count index.result (glyphs-count s l.rows l.at.count (omega (arith, l.invariant.room))) (glyphs-count s rows₁ at₁.count (omega arith))
    (rw c.row-row.ensures at index.ensures) _ _ c.follow_step.ensures c.renew.ensures in
    let next : a.own.first + (l.k + 1) * 25 ≡ row + 25 = omega arith in
    let less : a.own.count - (l.k + 1) ≡ a.own.count - l.k - 1 = omega arith in
    rw (next, less)
    record {
      room = omega arith;
      known = table₁.0;
      same-span = did.same-span ∙ l.invariant.same-span;
      earlier = l.invariant.earlier;
      rest = record { positions = on.positions; marked = on.marked; rest = on.rest };
      fresh = table₁.1;
    }

pub returns : goal.returns
returns c =
    let a = c.args in
    let l = c.loop-k in
    let s = a.s.now in
    let ends = left-done s a.span a.marks.now.stamp a.marks.now.stamps (merged_into (glyphs_in s a.rows.now a.count) a.span s a.own.first a.own.count)
    l.rows l.marks.stamps l.at (a.own.first + l.k * 25) (a.own.count - l.k) l.invariant.rest (omega arith) in
    record { same-span = l.invariant.same-span; marked = ends.marked; held = omega arith; is = ends.is }
