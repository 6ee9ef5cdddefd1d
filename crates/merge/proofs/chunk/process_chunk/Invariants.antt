-- `merge::chunk::process_chunk` meets its contract. The loop's invariant: the spans left, merged into the list as it is, give the chunk's merge. Assumes nothing.
use Prim.Native.Nat.{◌+◌, ◌≤◌}
use mathlib.Core.Path.{◌≡◌}
use mathlib.Core.List.{foldl}
use lib.ListN.{drop}
use Rattle.spec.specs.Outcome.{given}
use Rattle.spec.specs.Merge.{merge_span, merge_glyphs}
use Rattle.spec.specs.Lists.{All}
use Rattle.job_rows.specs.Rows.{parts_in}
use Rattle.merge.specs.Merged.{glyphs_in, FewGlyphs}
use Rattle.merge.specs.Steps.{StampsBelow}
use Rattle.merge.proofs.chunk.process_chunk.Given as goal

abbrev pub invariant-loop-at : goal.invariant-loop-at
invariant-loop-at l =
    (l.marks.stamp ≡ l.at-index)
    × StampsBelow (l.marks.stamp + 1) l.marks.stamps
    × (l.count ≤ 1024)
    × All FewGlyphs (parts_in l.s (drop l.at-index l.spans))
    × (foldl merge_span (given (glyphs_in l.s l.rows l.count)) (parts_in l.s (drop l.at-index l.spans)) ≡ merge_glyphs (parts_in l.s l.spans))
