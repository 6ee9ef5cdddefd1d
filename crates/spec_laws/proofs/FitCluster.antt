-- A cluster that fits its row: every float is a binary32, the index two bytes wide; and so it stays with some of its parts set anew.
-- Assumes nothing.
use Prim.Native.Nat.{◌^◌, ◌<◌}
use mathlib.Core.Bool.{Bool}
use mathlib.Core.List.{List}
use lib.Ieee.{Float, binary32}
use lib.Ieee.Bits.{of_bits-fits}
use Rattle.spec_laws.proofs.Few.{Few}
use Rattle.spec_laws.proofs.ReadBack.{Fits}
use Rattle.spec.specs.Single.{+0}
use Rattle.spec.specs.Job.{limits}
use Rattle.spec.specs.ClusterParts.{with_line, with_height, with_scale, with_marks, collapsed}
use Rattle.spec.specs.declared.Cluster.{Cluster}
use Rattle.spec.specs.Cluster.{rounded}

pub record FitCluster (c : Cluster) : Type 0 where
  pub index : c.index < 256 ^ 2
  pub width : Fits c.width
  pub advance : Fits c.advance
  pub spacing : Fits c.spacing
  pub ascent : Fits c.ascent
  pub descent : Fits c.descent
  pub nudge : Fits c.nudge
  pub scale : Fits c.scale
  pub x : Fits c.x
  pub y : Fits c.y
  pub angle : Fits c.angle

-- at most as many as a merged list has glyphs
abbrev pub FitClusters : List Cluster → Type 0
FitClusters = Few FitCluster limits.merged

pub zero-fits : Fits +0
zero-fits = of_bits-fits binary32 0

-- ---- a cluster with some of its parts set anew

module _ (c : Cluster) (h : FitCluster c) where
  pub line-fits : {width advance spacing x y : Float} → Fits width → Fits advance → Fits spacing → Fits x → Fits y → FitCluster (with_line width advance spacing x y c)
  line-fits w a s x y =
      record {
        index = h.index;
        width = w;
        advance = a;
        spacing = s;
        ascent = h.ascent;
        descent = h.descent;
        nudge = h.nudge;
        scale = h.scale;
        x = x;
        y = y;
        angle = h.angle;
      }

  pub height-fits : {ascent descent nudge : Float} → Fits ascent → Fits descent → Fits nudge → FitCluster (with_height ascent descent nudge c)
  height-fits a d n =
      record {
        index = h.index;
        width = h.width;
        advance = h.advance;
        spacing = h.spacing;
        ascent = a;
        descent = d;
        nudge = n;
        scale = h.scale;
        x = h.x;
        y = h.y;
        angle = h.angle;
      }

  pub scale-fits : {scale : Float} → Fits scale → FitCluster (with_scale scale c)
  scale-fits s =
      record {
        index = h.index;
        width = h.width;
        advance = h.advance;
        spacing = h.spacing;
        ascent = h.ascent;
        descent = h.descent;
        nudge = h.nudge;
        scale = s;
        x = h.x;
        y = h.y;
        angle = h.angle;
      }

  pub marks-fit : (relative rotated : Bool) {angle : Float} → Fits angle → FitCluster (with_marks relative rotated angle c)
  marks-fit relative rotated a =
      record {
        index = h.index;
        width = h.width;
        advance = h.advance;
        spacing = h.spacing;
        ascent = h.ascent;
        descent = h.descent;
        nudge = h.nudge;
        scale = h.scale;
        x = h.x;
        y = h.y;
        angle = a;
      }

  pub collapsed-fits : FitCluster (collapsed c)
  collapsed-fits =
      record {
        index = h.index;
        width = zero-fits;
        advance = zero-fits;
        spacing = h.spacing;
        ascent = h.ascent;
        descent = h.descent;
        nudge = h.nudge;
        scale = h.scale;
        x = h.x;
        y = h.y;
        angle = h.angle;
      }

  pub advance-fits : {advance : Float} → Fits advance → FitCluster (rounded.with_advance advance c)
  advance-fits a = line-fits h.width a h.spacing h.x h.y

  pub shift_fits : {x y : Float} → Fits x → Fits y → FitCluster (rounded.with_shift x y c)
  shift_fits = line-fits h.width h.advance h.spacing
