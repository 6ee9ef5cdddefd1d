-- `clustering::chunk::form_clusters` meets its contract: the clusters so far and those of the groups that are left are all of them. Assumes nothing.
use Prim.Native.Nat.{ℕ, ◌-◌, ◌≤◌}
use mathlib.Core.Path.{◌≡◌}
use mathlib.Core.Bool.{true}
use mathlib.Core.List.{map}
use lib.ListN.{length, take}
use lib.Dec.{ltb}
use Rattle.std.specs.Prelude.{Some}
use Rattle.spec.specs.Lists.{all}
use Rattle.spec.specs.Group.{groups}
use Rattle.spec.specs.Arithmetic.{indexes}
use Rattle.spec.specs.Cluster.{rounded, form_glyph_clusters}
use Rattle.job_rows.specs.Rows.{fonts_in, spans_in, glyphs_at}
use Rattle.clustering.specs.Kept.{Kept}
use Rattle.clustering.proofs.LoopSteps.{groups_from, Counted, formed}
use Rattle.clustering.proofs.chunk.form_clusters.Given as goal

abbrev pub invariant-loop-i : goal.invariant-loop-i
invariant-loop-i l =
    let form = form_glyph_clusters (fonts_in l.s l.fonts) (spans_in l.s l.spans) in
    (length l.clusters ≡ length l.initial.clusters) × (l.n ≤ l.i) × (l.i ≤ length l.merged) × Counted l.s l.spans l.merged l.n l.i
    × (formed form l.clusters l.n (groups_from l.s l.spans l.merged l.i) ≡ map form (groups (spans_in l.s l.spans) (glyphs_at l.s l.merged)))
    × (all (λ (i : ℕ). ltb i 65536) (indexes rounded (take l.n l.clusters)) ≡ true)
    × Kept l.s l.fonts l.spans (Some l.kept)

abbrev pub decreases-loop-i : goal.decreases-loop-i
decreases-loop-i l = length l.merged - l.i
