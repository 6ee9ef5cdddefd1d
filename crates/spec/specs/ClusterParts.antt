-- A cluster with some of its parts set anew, the others as they are. Definitions only.
use Rattle.std.specs.Prelude.{ℕ, Bool, true, Float}
use Rattle.spec.specs.declared.Cluster.{Cluster}
use Rattle.spec.specs.Single.{+0}

-- ---- all that any step sets: how many glyphs it has, its four marks, its ten floats

abbrev pub with_parts : ℕ → Bool → Bool → Bool → Bool → Float → Float → Float → Float → Float → Float → Float → Float → Float → Float → Cluster → Cluster
with_parts count relative scaled rotated collapsed width advance spacing ascent descent nudge scale x y angle c =
    record {
      index = c.index;
      tag = c.tag;
      upright = c.upright;
      span = c.span;
      from = c.from;
      count = count;
      relative = relative;
      scaled = scaled;
      rotated = rotated;
      collapsed = collapsed;
      width = width;
      advance = advance;
      spacing = spacing;
      ascent = ascent;
      descent = descent;
      nudge = nudge;
      scale = scale;
      x = x;
      y = y;
      angle = angle;
    }

-- ---- the floats alone

abbrev pub with_floats : Float → Float → Float → Float → Float → Float → Float → Float → Float → Float → Cluster → Cluster
with_floats width advance spacing ascent descent nudge scale x y angle c =
    with_parts c.count c.relative c.scaled c.rotated c.collapsed width advance spacing ascent descent nudge scale x y angle c

-- ---- the glyph count and the marks alone

abbrev pub with_flags : ℕ → Bool → Bool → Bool → Bool → Cluster → Cluster
with_flags count relative scaled rotated collapsed c =
    with_parts count relative scaled rotated collapsed
    c.width c.advance c.spacing c.ascent c.descent c.nudge c.scale c.x c.y c.angle c

-- ---- what each step sets

-- steps 4 to 7, along the line
abbrev pub with_line : Float → Float → Float → Float → Float → Cluster → Cluster
with_line width advance spacing x y c = with_floats width advance spacing c.ascent c.descent c.nudge c.scale x y c.angle c

-- step 3
abbrev pub with_height : Float → Float → Float → Cluster → Cluster
with_height ascent descent nudge c = with_floats c.width c.advance c.spacing ascent descent nudge c.scale c.x c.y c.angle c

-- step 6, SpacingAndGlyphs
abbrev pub with_scale : Float → Cluster → Cluster
with_scale scale c =
    with_flags c.count c.relative true c.rotated c.collapsed
    (with_floats c.width c.advance c.spacing c.ascent c.descent c.nudge scale c.x c.y c.angle c)

-- step 7
abbrev pub with_marks : Bool → Bool → Float → Cluster → Cluster
with_marks relative rotated angle c =
    with_flags c.count relative c.scaled rotated c.collapsed
    (with_floats c.width c.advance c.spacing c.ascent c.descent c.nudge c.scale c.x c.y angle c)

-- step 4: width and advance become 0 and the glyphs go
abbrev pub collapsed : Cluster → Cluster
collapsed c = with_flags 0 c.relative c.scaled c.rotated true (with_line +0 +0 c.spacing c.x c.y c)
