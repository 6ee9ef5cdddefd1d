-- Clusters that no step has moved yet. Definitions only.
use Rattle.std.specs.Prelude.{◌≡◌, false, Float}
use Rattle.spec.specs.Single.{+0}
use Rattle.spec.specs.declared.Cluster.{Cluster}

-- shifted by x and y, and neither rotated nor marked. A product and no record, so that it says the same of a cluster with other parts set anew
abbrev pub ShiftedBy : Float → Float → Cluster → Type 0
ShiftedBy x y c = (c.x ≡ x) × (c.y ≡ y) × (c.angle ≡ +0) × (c.relative ≡ false) × (c.rotated ≡ false)

abbrev pub Unmoved : Cluster → Type 0
Unmoved = ShiftedBy +0 +0
