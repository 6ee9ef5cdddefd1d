-- Step 8: the baseline shift, `resolve_baseline` of source document 000. Definitions only.
pub use Rattle.spec.specs.declared.DominantBaseline.{DominantBaseline}
pub use Rattle.spec.specs.declared.AlignmentBaseline.{AlignmentBaseline}
use Rattle.std.specs.Prelude.{ℕ, cond, get_or, eqb, leb, pos, Float}
use mathlib.Core.List.{List, [], ◌∷◌, foldr}
use Rattle.std.specs.Float.Ieee.{neg}
use Rattle.spec.specs.Single.{◌+ᶠ◌, ◌-ᶠ◌, ◌*ᶠ◌, +0, half, four_fifths}
use Rattle.spec.specs.Job.{Font, Shift, Span, SpanParts, BaselineShift, left_to_right}
use Rattle.spec.specs.Arithmetic.{measure}
use Rattle.spec.specs.Cluster.{rounded}

-- ---- font measures at a size

abbrev pub ascent_of : Font → Float → Float
ascent_of f size = measure rounded f size f.ascent

abbrev pub descent_of : Font → Float → Float
descent_of f size = measure rounded f size f.descent

abbrev pub height_of : Font → Float → Float
height_of f size = ascent_of f size -ᶠ descent_of f size

abbrev pub x_height_of : Font → Float → Float
x_height_of f size = measure rounded f size (pos f.xheight)

-- ---- the baseline shifts, summed from the last to the first

-- by its kind, in the order of source document 001
unfoldable pub baseline_shift_of : Shift → BaselineShift
baseline_shift_of s =
    cond (eqb s.kind 0) BaselineShift.Baseline
    (cond (eqb s.kind 1) BaselineShift.Subscript
    (cond (eqb s.kind 2) BaselineShift.Superscript (BaselineShift.Number s.number)))

unfoldable pub add_baseline_shift : Font → Float → BaselineShift → Float → Float
add_baseline_shift f size BaselineShift.Baseline sum = sum
add_baseline_shift f size BaselineShift.Subscript sum = sum -ᶠ measure rounded f size f.subscript
add_baseline_shift f size BaselineShift.Superscript sum = sum +ᶠ measure rounded f size f.superscript
add_baseline_shift f size (BaselineShift.Number n) sum = sum +ᶠ n

unfoldable pub resolve_baseline_shift : Font → Float → List Shift → Float
resolve_baseline_shift f size ss = foldr (λ (s : Shift) (sum : Float). add_baseline_shift f size (baseline_shift_of s) sum) +0 ss

-- ---- the baselines, numbered in the order of source document 001

unfoldable pub dominant_baselines : List DominantBaseline
dominant_baselines =
    DominantBaseline.Auto
    ∷ DominantBaseline.UseScript
    ∷ DominantBaseline.NoChange
    ∷ DominantBaseline.ResetSize
    ∷ DominantBaseline.Ideographic
    ∷ DominantBaseline.Alphabetic
    ∷ DominantBaseline.Hanging
    ∷ DominantBaseline.Mathematical
    ∷ DominantBaseline.Central
    ∷ DominantBaseline.Middle
    ∷ DominantBaseline.TextAfterEdge
    ∷ DominantBaseline.TextBeforeEdge
    ∷ []

unfoldable pub alignment_baselines : List AlignmentBaseline
alignment_baselines =
    AlignmentBaseline.Auto
    ∷ AlignmentBaseline.Baseline
    ∷ AlignmentBaseline.BeforeEdge
    ∷ AlignmentBaseline.TextBeforeEdge
    ∷ AlignmentBaseline.Middle
    ∷ AlignmentBaseline.Central
    ∷ AlignmentBaseline.AfterEdge
    ∷ AlignmentBaseline.TextAfterEdge
    ∷ AlignmentBaseline.Ideographic
    ∷ AlignmentBaseline.Alphabetic
    ∷ AlignmentBaseline.Hanging
    ∷ AlignmentBaseline.Mathematical
    ∷ []

unfoldable pub alignment_baseline_shift : Font → Float → AlignmentBaseline → Float
alignment_baseline_shift f size AlignmentBaseline.Auto = +0
alignment_baseline_shift f size AlignmentBaseline.Baseline = +0
alignment_baseline_shift f size AlignmentBaseline.BeforeEdge = ascent_of f size
alignment_baseline_shift f size AlignmentBaseline.TextBeforeEdge = ascent_of f size
alignment_baseline_shift f size AlignmentBaseline.Middle = x_height_of f size *ᶠ half
alignment_baseline_shift f size AlignmentBaseline.Central = ascent_of f size -ᶠ height_of f size *ᶠ half
alignment_baseline_shift f size AlignmentBaseline.AfterEdge = descent_of f size
alignment_baseline_shift f size AlignmentBaseline.TextAfterEdge = descent_of f size
alignment_baseline_shift f size AlignmentBaseline.Ideographic = descent_of f size
alignment_baseline_shift f size AlignmentBaseline.Alphabetic = +0
alignment_baseline_shift f size AlignmentBaseline.Hanging = ascent_of f size *ᶠ four_fifths
alignment_baseline_shift f size AlignmentBaseline.Mathematical = ascent_of f size *ᶠ half

-- a dominant baseline counts as the alignment of its name, or as Auto
unfoldable pub alignment_of : DominantBaseline → AlignmentBaseline
alignment_of DominantBaseline.Auto = AlignmentBaseline.Auto
alignment_of DominantBaseline.UseScript = AlignmentBaseline.Auto
alignment_of DominantBaseline.NoChange = AlignmentBaseline.Auto
alignment_of DominantBaseline.ResetSize = AlignmentBaseline.Auto
alignment_of DominantBaseline.Ideographic = AlignmentBaseline.Ideographic
alignment_of DominantBaseline.Alphabetic = AlignmentBaseline.Alphabetic
alignment_of DominantBaseline.Hanging = AlignmentBaseline.Hanging
alignment_of DominantBaseline.Mathematical = AlignmentBaseline.Mathematical
alignment_of DominantBaseline.Central = AlignmentBaseline.Central
alignment_of DominantBaseline.Middle = AlignmentBaseline.Middle
alignment_of DominantBaseline.TextAfterEdge = AlignmentBaseline.TextAfterEdge
alignment_of DominantBaseline.TextBeforeEdge = AlignmentBaseline.TextBeforeEdge

-- a span's alignment; Auto and Baseline, 0 and 1, hand over to its dominant baseline
unfoldable pub span_alignment : Span → AlignmentBaseline
span_alignment s =
    cond (leb s.alignment 1) (alignment_of (get_or dominant_baselines s.dominant DominantBaseline.Auto))
    (get_or alignment_baselines s.alignment AlignmentBaseline.Auto)

-- left to right the baselines count too
unfoldable pub resolve_baseline : ℕ → Font → SpanParts → Float
resolve_baseline mode f p =
    let s = p.span in
    let shift = neg (resolve_baseline_shift f s.size p.shifts) in
    cond (eqb mode left_to_right) (shift +ᶠ alignment_baseline_shift f s.size (span_alignment s)) shift
