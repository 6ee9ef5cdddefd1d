-- Step 8: decoration runs, `collect_decoration_spans` of source document 000, and the offsets of its `layout_text`. Definitions only.
pub use Rattle.spec.specs.declared.Run.{Run}
use Rattle.std.specs.Prelude.{ℕ, ◌+◌, ◌/◌, ◌%◌, Bool, true, false, cond, eqb, pos, Float}
use mathlib.Core.List.{List, [], ◌∷◌, ◌++◌, foldl}
use Rattle.std.specs.Float.Ieee.{neg}
use Rattle.spec.specs.Single.{◌+ᶠ◌, ◌/ᶠ◌, +0, two}
use Rattle.spec.specs.Job.{Font, Span, left_to_right}
use Rattle.spec.specs.Merge.{span_contains}
use Rattle.spec.specs.Arithmetic.{measure}
use Rattle.spec.specs.Cluster.{Cluster, rounded}
use Rattle.spec.specs.Baseline.{height_of, ascent_of}

-- ---- runs

-- the runs so far, and the one that has started, if any
pub data Collecting : Type 0 where
  waiting : List Run → Collecting
  started : List Run → Run → Collecting

abbrev pub ended : Collecting → List Run
ended (waiting rs) = rs
ended (started rs r) = rs ++ (r ∷ [])

-- a cluster of the span, at place k: it begins a run where none has started or where it has a relative shift, else it makes the run longer
unfoldable pub extend_run : ℕ → Bool → Float → Collecting → Collecting
extend_run k relative a (waiting rs) = started rs (record { first = k; width = a })
extend_run k true a (started rs r) = started (rs ++ (r ∷ [])) (record { first = k; width = a })
extend_run k false a (started rs r) = started rs (record { first = r.first; width = r.width +ᶠ a })

-- the place of the next cluster, and the runs before it
pub record Walking : Type 0 where
  pub place : ℕ
  pub runs : Collecting

-- a cluster outside the span ends the run
unfoldable pub collect_next : Span → Walking → Cluster → Walking
collect_next s st c =
    record {
      place = st.place + 1;
      runs = cond (span_contains s c.index) (extend_run st.place c.relative c.advance st.runs) (waiting (ended st.runs));
    }

unfoldable pub collect_decoration_spans : Span → List Cluster → List Run
collect_decoration_spans s cs = ended (foldl (collect_next s) (record { place = 0; runs = waiting [] }) cs).runs

-- ---- offsets: zero bits if not wanted

-- the decorations have the bit: 1 under, 2 over, 4 through
abbrev pub wants : Span → ℕ → Bool
wants s bit = eqb (s.decorations / bit % 2) 1

unfoldable pub under_offset : ℕ → Font → Span → Float
under_offset mode f s =
    cond (wants s 1) (cond (eqb mode left_to_right) (neg (measure rounded f s.size f.underline)) (height_of f s.size /ᶠ two)) +0

unfoldable pub over_offset : ℕ → Font → Span → Float
over_offset mode f s = cond (wants s 2) (cond (eqb mode left_to_right) (neg (ascent_of f s.size)) (neg (height_of f s.size) /ᶠ two)) +0

unfoldable pub through_offset : ℕ → Font → Span → Float
through_offset mode f s = cond (wants s 4) (cond (eqb mode left_to_right) (neg (measure rounded f s.size f.through)) +0) +0

unfoldable pub thickness_of : Font → Span → Float
thickness_of f s = measure rounded f s.size (pos f.thickness)
