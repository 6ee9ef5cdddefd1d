-- The label of document 01, its variants P1 to P9 and document 02's natural length, as one table that is computed from the job's bytes: what each
-- changes, and what is seen of its layout, in the rows and in the answer's bytes.
use Prim.Native.Nat.{ℕ, suc}
use mathlib.Core.Path.{◌≡◌, refl}
use mathlib.Core.List.{List, [], ◌∷◌, ◌++◌, map, foldl}
use lib.ListN.{length, take}
use Rattle.spec.specs.Outcome.{Outcome, given, and_then}
use Rattle.spec.specs.Check.{checked}
use Rattle.spec.specs.Script.Tag.{tag}
use Rattle.spec.specs.Decoration.{Run}
use Rattle.spec.specs.Answer.{ChunkRow, ClusterRow, SpanRow, read_answer}
use Rattle.spec.specs.Layout.{LaidChunk, Progress, beginning, layout_chunk, layout_job, layout_of, rows_of}
use Rattle.spec.proofs.Compute.{computed}
use Rattle.spec.proofs.Seen.{bits, whole, below, -0, shown}
use Rattle.spec.proofs.Jobs.{Variant, font_row, chunk_row, job_row, label_span, plain_variant, length_variant, label_job, built}

-- ---- what is seen of a layout: the lines that platelist prints, each cluster's with its scale, nudge, ascent and shift y besides

cluster_lines : ℕ → List ClusterRow → List (List ℕ)
cluster_lines k [] = []
cluster_lines k (c ∷ cs) =
    (k ∷ c.index ∷ c.flags ∷ bits c.width ∷ bits c.advance ∷ bits c.x ∷ bits c.scale ∷ bits c.nudge ∷ bits c.ascent ∷ bits c.y ∷ [])
    ∷ cluster_lines (suc k) cs

run_lines : ℕ → List Run → List (List ℕ)
run_lines k [] = []
run_lines k (r ∷ rs) = (k ∷ r.first ∷ bits r.width ∷ []) ∷ run_lines k rs

span_lines : List SpanRow → List (List ℕ)
unfolding run_lines
span_lines [] = []
span_lines (s ∷ ss) = (s.index ∷ bits s.baseline ∷ bits s.thickness ∷ bits s.under ∷ []) ∷ (run_lines s.index s.runs ++ span_lines ss)

lines : ℕ → List ChunkRow → List (List ℕ)
unfolding cluster_lines span_lines
lines k [] = []
lines k (c ∷ cs) =
    (k ∷ length c.clusters ∷ bits c.pen_x ∷ bits c.pen_y ∷ []) ∷ (cluster_lines 0 c.clusters ++ (span_lines c.spans ++ lines (suc k) cs))

-- the extents, and the lines, of the rows laid out
laid : List ℕ → Outcome (List ℕ × List (List ℕ))
unfolding lines
laid bs =
    and_then (checked bs) (λ j. and_then (layout_job j) (λ cs. given (map (λ (c : LaidChunk). bits c.extent) cs, lines 0 (rows_of cs))))

-- the lines of the rows that the answer's bytes hold
written : List ℕ → Outcome (List (List ℕ))
unfolding lines
written bs = and_then (layout_of bs 65536) (λ answer. given (lines 0 (read_answer answer)))

-- ---- the table

pub record Case : Type 0 where
  pub variant : Variant
  pub extent : ℕ
  pub expected : List (List ℕ)

-- The expected lines:
-- a chunk's: index, clusters, pen; a cluster's: index, byte index, flags, width, advance, shift x, scale, nudge, ascent, shift y;
-- a span's: index, baseline shift, thickness, under offset; a run's: span, first cluster, width

-- the label's lines, with some baseline shift
plain_lines : ℕ → List (List ℕ)
plain_lines baseline =
    (0 ∷ 3 ∷ whole 100 ∷ whole 50 ∷ [])
    ∷ (0 ∷ 0 ∷ 0 ∷ whole 10 ∷ whole 11 ∷ below 28 ∷ 0 ∷ 0 ∷ whole 12 ∷ 0 ∷ [])
    ∷ (1 ∷ 1 ∷ 0 ∷ whole 4 ∷ whole 7 ∷ below 17 ∷ 0 ∷ 0 ∷ whole 12 ∷ 0 ∷ [])
    ∷ (2 ∷ 2 ∷ 0 ∷ whole 10 ∷ whole 10 ∷ below 10 ∷ 0 ∷ 0 ∷ whole 12 ∷ 0 ∷ [])
    ∷ (0 ∷ baseline ∷ whole 1 ∷ whole 2 ∷ [])
    ∷ (0 ∷ 0 ∷ whole 28 ∷ [])
    ∷ []

-- the label itself
P1 : Case
unfolding plain_lines
P1 = record { variant = plain_variant (tag "Latn") (whole 1); extent = whole 28; expected = plain_lines 0 }

-- text length 54, Spacing: advances 25, 19, 25, extent 54
P2 : Case
P2 =
    record {
      variant = record { mode = 0; upright = 0; script = tag "Latn"; letter = whole 1; fixed = 1; target = whole 54; adjust = 0; alignment = 0; shifts = []; dx = [] };
      extent = whole 54;
      expected =
          (0 ∷ 3 ∷ whole 115 ∷ whole 50 ∷ [])
          ∷ (0 ∷ 0 ∷ 0 ∷ whole 10 ∷ whole 25 ∷ below 54 ∷ 0 ∷ 0 ∷ whole 12 ∷ 0 ∷ [])
          ∷ (1 ∷ 1 ∷ 0 ∷ whole 4 ∷ whole 19 ∷ below 29 ∷ 0 ∷ 0 ∷ whole 12 ∷ 0 ∷ [])
          ∷ (2 ∷ 2 ∷ 0 ∷ whole 10 ∷ whole 25 ∷ below 10 ∷ 0 ∷ 0 ∷ whole 12 ∷ 0 ∷ [])
          ∷ (0 ∷ 0 ∷ whole 1 ∷ whole 2 ∷ [])
          ∷ (0 ∷ 0 ∷ whole 69 ∷ [])
          ∷ [];
    }

-- text length 48, SpacingAndGlyphs: scale 2, advances 11, 7, 10
P3 : Case
P3 =
    record {
      variant = record { mode = 0; upright = 0; script = tag "Latn"; letter = whole 1; fixed = 1; target = whole 48; adjust = 1; alignment = 0; shifts = []; dx = [] };
      extent = whole 28;
      expected =
          (0 ∷ 3 ∷ whole 100 ∷ whole 50 ∷ [])
          ∷ (0 ∷ 0 ∷ 8 ∷ whole 10 ∷ whole 11 ∷ below 28 ∷ whole 2 ∷ 0 ∷ whole 12 ∷ 0 ∷ [])
          ∷ (1 ∷ 1 ∷ 8 ∷ whole 4 ∷ whole 7 ∷ below 17 ∷ whole 2 ∷ 0 ∷ whole 12 ∷ 0 ∷ [])
          ∷ (2 ∷ 2 ∷ 8 ∷ whole 10 ∷ whole 10 ∷ below 10 ∷ whole 2 ∷ 0 ∷ whole 12 ∷ 0 ∷ [])
          ∷ (0 ∷ 0 ∷ whole 1 ∷ whole 2 ∷ [])
          ∷ (0 ∷ 0 ∷ whole 28 ∷ [])
          ∷ [];
    }

-- dx list 0, 3: runs 11 and 17, only the second cluster marked
P4 : Case
P4 =
    record {
      variant = record { mode = 0; upright = 0; script = tag "Latn"; letter = whole 1; fixed = 0; target = 0; adjust = 0; alignment = 0; shifts = []; dx = 0 ∷ whole 3 ∷ [] };
      extent = whole 31;
      expected =
          (0 ∷ 3 ∷ whole 100 ∷ whole 50 ∷ [])
          ∷ (0 ∷ 0 ∷ 0 ∷ whole 10 ∷ whole 11 ∷ below 31 ∷ 0 ∷ 0 ∷ whole 12 ∷ 0 ∷ [])
          ∷ (1 ∷ 1 ∷ 1 ∷ whole 4 ∷ whole 7 ∷ below 17 ∷ 0 ∷ 0 ∷ whole 12 ∷ 0 ∷ [])
          ∷ (2 ∷ 2 ∷ 0 ∷ whole 10 ∷ whole 10 ∷ below 10 ∷ 0 ∷ 0 ∷ whole 12 ∷ 0 ∷ [])
          ∷ (0 ∷ 0 ∷ whole 1 ∷ whole 2 ∷ [])
          ∷ (0 ∷ 0 ∷ whole 11 ∷ [])
          ∷ (0 ∷ 1 ∷ whole 17 ∷ [])
          ∷ [];
    }

-- letter −11: advances 0, 2, 10
P5 : Case
P5 =
    record {
      variant = plain_variant (tag "Latn") (below 11);
      extent = whole 12;
      expected =
          (0 ∷ 3 ∷ whole 100 ∷ whole 50 ∷ [])
          ∷ (0 ∷ 0 ∷ 32 ∷ 0 ∷ 0 ∷ below 12 ∷ 0 ∷ 0 ∷ whole 12 ∷ 0 ∷ [])
          ∷ (1 ∷ 1 ∷ 32 ∷ 0 ∷ whole 2 ∷ below 12 ∷ 0 ∷ 0 ∷ whole 12 ∷ 0 ∷ [])
          ∷ (2 ∷ 2 ∷ 0 ∷ whole 10 ∷ whole 10 ∷ below 10 ∷ 0 ∷ 0 ∷ whole 12 ∷ 0 ∷ [])
          ∷ (0 ∷ 0 ∷ whole 1 ∷ whole 2 ∷ [])
          ∷ (0 ∷ 0 ∷ whole 12 ∷ [])
          ∷ [];
    }

-- alignment middle: baseline 4
P6 : Case
unfolding plain_lines
P6 =
    record {
      variant = record { mode = 0; upright = 0; script = tag "Latn"; letter = whole 1; fixed = 0; target = 0; adjust = 0; alignment = 4; shifts = []; dx = [] };
      extent = whole 28;
      expected = plain_lines (whole 4);
    }

-- superscript: −5
P7 : Case
unfolding plain_lines
P7 =
    record {
      variant = record { mode = 0; upright = 0; script = tag "Latn"; letter = whole 1; fixed = 0; target = 0; adjust = 0; alignment = 0; shifts = 2 ∷ []; dx = [] };
      extent = whole 28;
      expected = plain_lines (below 5);
    }

-- top to bottom, upright A: nudge 4, ascent 5. Shift y is the accumulated dx negated, and nothing is added to the negated baseline shift:
-- both are −0. The run begins with the upright cluster and is 28 wide
P8 : Case
P8 =
    record {
      variant = record { mode = 1; upright = 1; script = tag "Latn"; letter = whole 1; fixed = 0; target = 0; adjust = 0; alignment = 0; shifts = []; dx = [] };
      extent = whole 28;
      expected =
          (0 ∷ 3 ∷ whole 100 ∷ whole 50 ∷ [])
          ∷ (0 ∷ 0 ∷ 2 ∷ whole 10 ∷ whole 11 ∷ below 28 ∷ 0 ∷ whole 4 ∷ whole 5 ∷ -0 ∷ [])
          ∷ (1 ∷ 1 ∷ 4 ∷ whole 4 ∷ whole 7 ∷ below 17 ∷ 0 ∷ whole 4 ∷ whole 12 ∷ -0 ∷ [])
          ∷ (2 ∷ 2 ∷ 4 ∷ whole 10 ∷ whole 10 ∷ below 10 ∷ 0 ∷ whole 4 ∷ whole 12 ∷ -0 ∷ [])
          ∷ (0 ∷ -0 ∷ whole 1 ∷ whole 8 ∷ [])
          ∷ (0 ∷ 0 ∷ whole 28 ∷ [])
          ∷ [];
    }

-- tag Arab: advances 10, 6, 10
P9 : Case
P9 =
    record {
      variant = plain_variant (tag "Arab") (whole 1);
      extent = whole 26;
      expected =
          (0 ∷ 3 ∷ whole 100 ∷ whole 50 ∷ [])
          ∷ (0 ∷ 0 ∷ 0 ∷ whole 10 ∷ whole 10 ∷ below 26 ∷ 0 ∷ 0 ∷ whole 12 ∷ 0 ∷ [])
          ∷ (1 ∷ 1 ∷ 0 ∷ whole 4 ∷ whole 6 ∷ below 16 ∷ 0 ∷ 0 ∷ whole 12 ∷ 0 ∷ [])
          ∷ (2 ∷ 2 ∷ 0 ∷ whole 10 ∷ whole 10 ∷ below 10 ∷ 0 ∷ 0 ∷ whole 12 ∷ 0 ∷ [])
          ∷ (0 ∷ 0 ∷ whole 1 ∷ whole 2 ∷ [])
          ∷ (0 ∷ 0 ∷ whole 26 ∷ [])
          ∷ [];
    }

-- text length 54, the natural length: advances 24, 20, 23, extent 54
natural : Case
natural =
    record {
      variant = length_variant 1 (whole 54) 2 [];
      extent = whole 54;
      expected =
          (0 ∷ 3 ∷ whole 113 ∷ whole 50 ∷ [])
          ∷ (0 ∷ 0 ∷ 0 ∷ whole 10 ∷ whole 24 ∷ below 54 ∷ 0 ∷ 0 ∷ whole 12 ∷ 0 ∷ [])
          ∷ (1 ∷ 1 ∷ 0 ∷ whole 4 ∷ whole 20 ∷ below 30 ∷ 0 ∷ 0 ∷ whole 12 ∷ 0 ∷ [])
          ∷ (2 ∷ 2 ∷ 0 ∷ whole 10 ∷ whole 23 ∷ below 10 ∷ 0 ∷ 0 ∷ whole 12 ∷ 0 ∷ [])
          ∷ (0 ∷ 0 ∷ whole 1 ∷ whole 2 ∷ [])
          ∷ (0 ∷ 0 ∷ whole 67 ∷ [])
          ∷ [];
    }

unfoldable pub table : List Case
unfolding P1 P2 P3 P4 P5 P6 P7 P8 P9 natural
table = P1 ∷ P2 ∷ P3 ∷ P4 ∷ P5 ∷ P6 ∷ P7 ∷ P8 ∷ P9 ∷ natural ∷ []

-- every row of the table holds: of the rows laid out, with their extent, and of the answer's bytes
rows_right : map (λ (c : Case). laid (label_job c.variant)) table ≡ map (λ (c : Case). given (c.extent ∷ [], c.expected)) table
unfolding computed built shown laid table
rows_right = refl

bytes-right : map (λ (c : Case). written (label_job c.variant)) table ≡ map (λ (c : Case). given c.expected) table
unfolding computed built shown written table
bytes-right = refl

-- the label's lines as document 01 prints them, a cluster's first six numbers
printed : map (λ (line : List ℕ). take 6 line) P1.expected
    ≡ (0 ∷ 3 ∷ 0x42c80000 ∷ 0x42480000 ∷ [])
    ∷ (0 ∷ 0 ∷ 0 ∷ 0x41200000 ∷ 0x41300000 ∷ 0xc1e00000 ∷ [])
    ∷ (1 ∷ 1 ∷ 0 ∷ 0x40800000 ∷ 0x40e00000 ∷ 0xc1880000 ∷ [])
    ∷ (2 ∷ 2 ∷ 0 ∷ 0x41200000 ∷ 0x41200000 ∷ 0xc1200000 ∷ [])
    ∷ (0 ∷ 0x00000000 ∷ 0x3f800000 ∷ 0x40000000 ∷ [])
    ∷ (0 ∷ 0 ∷ 0x41e00000 ∷ [])
    ∷ []
unfolding computed shown P1
printed = refl

-- ---- the extent that is kept of the last chunk

-- the label, a chunk with no cluster, and the label brought to 54 by Spacing
three_labels : List ℕ
three_labels =
    job_row 0 (font_row ∷ []) [] []
    (chunk_row 2 (65 ∷ 32 ∷ 66 ∷ []) (label_span (plain_variant (tag "Latn") (whole 1)) ∷ [])
    ∷ chunk_row 2 (66 ∷ []) []
    ∷ chunk_row 2 (65 ∷ 32 ∷ 66 ∷ []) (label_span (length_variant 1 (whole 54) 0 []) ∷ [])
    ∷ [])

-- what is kept after the first k chunks of a job
kept_after : List ℕ → ℕ → Outcome ℕ
kept_after bs k =
    and_then (checked bs) (λ j. and_then (foldl (layout_chunk j) (given beginning) (take k j.chunks)) (λ (st : Progress). given (bits st.extent)))

-- 0 before the first and where there is no cluster; 28 is 11 + 7 + 10, and 54 is 25 + 19 + 25 less the last cluster's length spacing, 15
kept : map (kept_after three_labels) (0 ∷ 1 ∷ 2 ∷ 3 ∷ []) ≡ given 0 ∷ given (whole 28) ∷ given 0 ∷ given (whole 54) ∷ []
unfolding computed built shown three_labels kept_after
kept = refl
