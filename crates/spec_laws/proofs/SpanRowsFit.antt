-- Span rows fit their fields: the decoration runs of clusters that fit, the baseline and the offsets. Assumes nothing.
use Prim.Native.Nat.{ℕ, suc, ◌+◌, ◌^◌, ◌≤◌, ◌<◌}
use mathlib.Core.Bool.{Bool, true, false}
use mathlib.Core.List.{List, [], ◌∷◌, foldl}
use native.Mathlib.Omega.{arith}
use lib.ListN.{length, length-append}
use lib.Dec.{eqb}
use lib.Ieee.{Float, binary32}
use lib.Ieee.Fits.{add-fits, sub-fits, mul-fits, div-fits, neg-fits}
use Rattle.spec_laws.proofs.All.{all_append, cond-keeps}
use Rattle.spec.specs.Lists.{All}
use Rattle.spec_laws.proofs.Few.{Few}
use Rattle.spec_laws.proofs.ReadBack.{Fits, FitRun, FitSpanRow}
use Rattle.spec_laws.proofs.FitCluster.{FitCluster, FitClusters, zero-fits}
use Rattle.spec.specs.declared.Font.{Font}
use Rattle.spec.specs.declared.Span.{Span}
use Rattle.spec.specs.declared.BaselineShift.{BaselineShift}
use Rattle.spec.specs.Job.{Job, Shift, SpanParts, limits, no_font, left_to_right, font_at}
use Rattle.spec.specs.Merge.{span_contains}
use Rattle.spec.specs.declared.Cluster.{Cluster}
use Rattle.spec.specs.Baseline.{baseline_shift_of, add_baseline_shift, resolve_baseline_shift, resolve_baseline}
use Rattle.spec.specs.Decoration.{Collecting, waiting, started, ended, extend_run, Walking, collect_next, collect_decoration_spans, wants, under_offset, over_offset, through_offset, thickness_of}
use Rattle.spec.specs.declared.Point.{Point}
use Rattle.spec.specs.Layout.{span_row, span_rows}

-- ---- runs

-- at most as many runs as places were passed
abbrev Collected : ℕ → Collecting → Type 0
Collected k (waiting rs) = Few FitRun k rs
Collected k (started rs r) = FitRun r × All FitRun rs × (length rs < k)

ended-fit : (k : ℕ) (o : Collecting) → Collected k o → Few FitRun k (ended o)
ended-fit k (waiting rs) h = h
ended-fit k (started rs r) h = record { each = all_append h.1 (All.more h.0 All.none); few = rw (length-append rs (r ∷ [])) (omega (arith, h.2)) }

extended-fit : (k : ℕ) (relative : Bool) (a : Float) (o : Collecting) → k < 256 ^ 2 → Fits a → Collected k o → Collected (k + 1) (extend_run k relative a o)
unfolding extend_run
extended-fit k relative a (waiting rs) b f h = (record { first = b; width = f }, h.each, omega arith)
extended-fit k true a (started rs r) b f h =
    let e = ended-fit k (started rs r) h in
    (record { first = b; width = f }, e.each, omega arith)
extended-fit k false a (started rs r) b f h = (record { first = h.0.first; width = add-fits binary32 _ _ }, h.1, omega (arith, h.2))

next_fits : (s : Span) (st : Walking) (c : Cluster) → st.place < limits.merged → FitCluster c → Collected st.place st.runs → Collected (st.place + 1) (collect_next s st c).runs
unfolding collect_next
next_fits s st c b f h =
    let e = ended-fit st.place st.runs h in
    cond-keeps (Collected (st.place + 1)) (span_contains s c.index) (extended-fit st.place c.relative c.advance st.runs (omega arith) f.advance h)
    (record { each = e.each; few = omega arith })

walked-fits : (s : Span) (st : Walking) {cs : List Cluster} → All FitCluster cs → st.place + length cs ≤ limits.merged → Collected st.place st.runs
    → Few FitRun limits.merged (ended (foldl (collect_next s) st cs).runs)
unfolding collect_next
walked-fits s st All.none b h = let e = ended-fit st.place st.runs h in record { each = e.each; few = omega arith }
walked-fits s st (All.more {x = c} {xs = cs} f fs) b h = walked-fits s (collect_next s st c) fs (omega arith) (next_fits s st c (omega arith) f h)

pub runs_fit : (s : Span) {cs : List Cluster} → FitClusters cs → Few FitRun limits.merged (collect_decoration_spans s cs)
unfolding collect_decoration_spans
runs_fit s k = walked-fits s _ k.each (omega (arith, k.few)) (record { each = All.none; few = omega arith })

-- ---- baseline and offsets

module _ (f : Font) where
  add-shift-fits : (size : Float) (s : BaselineShift) (sum : Float) → Fits sum → Fits (add_baseline_shift f size s sum)
  unfolding add_baseline_shift
  add-shift-fits size BaselineShift.Baseline sum h = h
  add-shift-fits size BaselineShift.Subscript sum h = sub-fits binary32 _ _
  add-shift-fits size BaselineShift.Superscript sum h = add-fits binary32 _ _
  add-shift-fits size (BaselineShift.Number n) sum h = add-fits binary32 _ _

  shifts_fit : (size : Float) (ss : List Shift) → Fits (resolve_baseline_shift f size ss)
  unfolding resolve_baseline_shift
  shifts_fit size [] = zero-fits
  shifts_fit size (s ∷ ss) = add-shift-fits size (baseline_shift_of s) _ (shifts_fit size ss)

  baseline-fits : (mode : ℕ) (p : SpanParts) → Fits (resolve_baseline mode f p)
  unfolding resolve_baseline
  baseline-fits mode p = cond-keeps Fits (eqb mode left_to_right) (add-fits binary32 _ _) (neg-fits binary32 _ (shifts_fit p.span.size p.shifts))

  under-fits : (mode : ℕ) (s : Span) → Fits (under_offset mode f s)
  unfolding under_offset
  under-fits mode s = cond-keeps Fits (wants s 1) (cond-keeps Fits (eqb mode left_to_right) (neg-fits binary32 _ (mul-fits binary32 _ _)) (div-fits binary32 _ _)) zero-fits

  over-fits : (mode : ℕ) (s : Span) → Fits (over_offset mode f s)
  unfolding over_offset
  over-fits mode s = cond-keeps Fits (wants s 2) (cond-keeps Fits (eqb mode left_to_right) (neg-fits binary32 _ (mul-fits binary32 _ _)) (div-fits binary32 _ _)) zero-fits

  through-fits : (mode : ℕ) (s : Span) → Fits (through_offset mode f s)
  unfolding through_offset
  through-fits mode s = cond-keeps Fits (wants s 4) (cond-keeps Fits (eqb mode left_to_right) (neg-fits binary32 _ (mul-fits binary32 _ _)) zero-fits) zero-fits

  thickness-fits : (s : Span) → Fits (thickness_of f s)
  unfolding thickness_of
  thickness-fits s = mul-fits binary32 _ _

-- ---- rows

pub record FitPoint (p : Point) : Type 0 where
  pub x : Fits p.x
  pub y : Fits p.y

module _ (job : Job) (origin : Point) (at : FitPoint origin) {cs : List Cluster} (fit : FitClusters cs) where
  span_row-fits : (k : ℕ) (p : SpanParts) → k < 256 ^ 1 → FitSpanRow (span_row job origin cs k p)
  unfolding span_row
  span_row-fits k p b =
      let s = p.span in
      let f = font_at job.fonts s.font in
      let runs = runs_fit s fit in
      record {
        index = b;
        x = at.x;
        y = at.y;
        baseline = baseline-fits f job.mode p;
        thickness = thickness-fits f s;
        under = under-fits f job.mode s;
        over = over-fits f job.mode s;
        through = through-fits f job.mode s;
        count = omega (arith, runs.few);
        runs = runs.each;
      }

  -- a span row at most for each span
  pub span_rows-fit : (k : ℕ) (ps : List SpanParts) → k + length ps < 256 ^ 1 → Few FitSpanRow (length ps) (span_rows job origin cs k ps)
  unfolding span_rows
  span_rows-fit k [] b = record { each = All.none; few = omega arith }
  span_rows-fit k (p ∷ ps) b =
      let r = span_rows-fit (k + 1) ps (omega arith) in
      cond-keeps (Few FitSpanRow (suc (length ps))) (eqb p.span.font no_font) (record { each = r.each; few = omega arith })
      (record { each = All.more (span_row-fits k p (omega arith)) r.each; few = omega arith })
