-- Step 3: the writing mode. Definitions only.
use Rattle.std.specs.Prelude.{ℕ, cond, List, map, eqb}
use Rattle.std.specs.Float.Ieee.{neg}
use Rattle.spec.specs.Single.{◌+ᶠ◌, ◌/ᶠ◌, two}
use Rattle.spec.specs.Job.{top_to_bottom}
use Rattle.spec.specs.ClusterParts.{with_height}
use Rattle.spec.specs.Cluster.{Cluster}

-- top to bottom: nudge is (ascent + descent) ÷ 2; of an upright cluster ascent and descent become plus and minus half the width
unfoldable pub vertical_metrics : Cluster → Cluster
vertical_metrics c =
    let nudge = (c.ascent +ᶠ c.descent) /ᶠ two in
    cond c.upright (with_height (c.width /ᶠ two) (neg c.width /ᶠ two) nudge c) (with_height c.ascent c.descent nudge c)

unfoldable pub apply_writing_mode : ℕ → List Cluster → List Cluster
apply_writing_mode mode cs = cond (eqb mode top_to_bottom) (map vertical_metrics cs) cs
