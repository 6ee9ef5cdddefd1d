-- `merge::index::build_index` meets its contract. The loop's invariant: the table is that of the glyphs from place i on. Assumes nothing.
use mathlib.Core.Path.{◌≡◌}
use lib.ListN.{drop}
use Rattle.merge.specs.Merged.{glyphs_in}
use Rattle.merge.specs.Buckets.{buckets_from}
use Rattle.merge.proofs.index.build_index.Given as goal

abbrev pub invariant-loop-i : goal.invariant-loop-i
invariant-loop-i l = l.buckets ≡ buckets_from l.i (drop l.i (glyphs_in l.s l.rows l.count)) l.initial.buckets
