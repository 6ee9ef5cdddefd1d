-- The rounded clusters: what the steps read and set of them. And step 2, which makes them. Definitions only.
pub use Rattle.spec.specs.declared.Cluster.{Cluster}
use Rattle.spec.specs.ClusterParts.{with_line, collapsed}
use Rattle.std.specs.Prelude.{false, not, List, length, eqb, Float}
use Rattle.std.specs.Float.{binary32}
use Rattle.std.specs.Float.Ieee.{neg, lt, of_int}
use Rattle.spec.specs.Single.{◌+ᶠ◌, ◌-ᶠ◌, ◌*ᶠ◌, ◌/ᶠ◌, +0, two, of_nat, is_positive}
use Rattle.spec.specs.Job.{Font, Span, font_at, span_at}
use Rattle.spec.specs.Group.{Group}
use Rattle.spec.specs.Arithmetic.{Arithmetic, measure, sum_advance, max_advance}

-- ---- demand 2's arithmetic: every operation is rounded once

abbrev pub rounded : Arithmetic
rounded =
    record {
      Num = Float;
      of_float = λ x. x;
      zero = +0;
      times = λ z x. of_int binary32 z *ᶠ x;
      ◌⊕◌ = ◌+ᶠ◌;
      ◌⊖◌ = ◌-ᶠ◌;
      ◌⊘◌ = λ x n. x /ᶠ of_nat n;
      halved = λ x. x /ᶠ two;
      minus = neg;
      less = lt;
      Cluster = Cluster;
      index = λ c. c.index;
      tag = λ c. c.tag;
      span = λ c. c.span;
      width = λ c. c.width;
      advance = λ c. c.advance;
      spacing = λ c. c.spacing;
      x = λ c. c.x;
      y = λ c. c.y;
      with_advance = λ a c. with_line c.width a c.spacing c.x c.y c;
      with_spacing = λ a l c. with_line c.width a l c.x c.y c;
      with_shift = λ x y c. with_line c.width c.advance c.spacing x y c;
      collapses = λ c. not (is_positive c.advance);
      collapse = collapsed;
    }

-- ---- step 2: a cluster of a group; tag, orientation, ascent and descent come from its first glyph, the size from its span

unfoldable pub form_glyph_clusters : List Font → List Span → Group → Cluster
form_glyph_clusters fonts spans g =
    let f = font_at fonts g.first.font in
    let size = (span_at spans g.span).size in
    record {
      index = g.first.index;
      tag = g.first.tag;
      upright = eqb g.first.orientation 1;
      span = g.span;
      from = g.from;
      count = length g.glyphs;
      relative = false;
      scaled = false;
      rotated = false;
      collapsed = false;
      width = max_advance rounded fonts size g.glyphs;
      advance = sum_advance rounded fonts size g.glyphs;
      spacing = +0;
      ascent = measure rounded f size f.ascent;
      descent = measure rounded f size f.descent;
      nudge = +0;
      scale = +0;
      x = +0;
      y = +0;
      angle = +0;
    }
