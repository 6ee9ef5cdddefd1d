-- `merge::chunk::merge_glyphs` meets its contract. The loop's invariant: the glyphs left, merged into the list as it is, give the span's merge. Assumes nothing.
use Prim.Native.Nat.{ℕ, ◌+◌, ◌-◌, ◌*◌, ◌≤◌}
use mathlib.Core.Path.{◌≡◌}
use mathlib.Core.List.{List}
use lib.ListN.{length}
use Rattle.spec.specs.Outcome.{Outcome}
use Rattle.spec.specs.declared.Span.{Span}
use Rattle.spec.specs.Merge.{Merging}
use Rattle.merge.specs.Merged.{glyphs_in, merged_into}
use Rattle.merge.specs.Buckets.{Table, seen, IsFor}
use Rattle.merge.specs.Steps.{StampsBelow}
use Rattle.merge.specs.declared.progress.Marks.{Marks}
use Rattle.merge.specs.declared.progress.Progress.{Progress}
use Rattle.merge.proofs.LoopSteps.{Left}
use Rattle.merge.proofs.chunk.merge_glyphs.Given as goal

pub record Going (s : List ℕ) (span : Span) (marks₀ : Marks) (all : Outcome Merging) (rows : List ℕ) (marks : Marks) (t : Table) (at : Progress) (row left : ℕ) : Type 0 where
  pub room : length rows ≡ 1024
  pub known : IsFor t (glyphs_in s rows at.count)
  pub same-span : marks.stamp ≡ marks₀.stamp
  pub earlier : StampsBelow marks₀.stamp marks₀.stamps
  pub rest : Left s span marks₀.stamp marks₀.stamps all rows marks.stamps at row left
  pub fresh : t.slack ≤ 32

abbrev pub invariant-loop-k : goal.invariant-loop-k
invariant-loop-k l =
    Going l.s l.span l.initial.marks (merged_into (glyphs_in l.s l.initial.rows l.count) l.span l.s l.own.first l.own.count)
    l.rows l.marks (seen l.table) l.at (l.own.first + l.k * 25) (l.own.count - l.k)
