-- The rows that an answer's bytes hold are the rows that were written, whatever follows: one law a row. Assumes nothing.
use Prim.Native.Nat.{ℕ, ◌+◌, ◌*◌, ◌^◌, ◌<◌}
use mathlib.Core.Path.{◌≡◌, refl, sym, ap, ap₂, ◌∙◌}
use mathlib.Core.List.{List, [], ◌∷◌, ◌++◌, flat_map, append_assoc}
use native.Mathlib.Omega.{arith}
use lib.ListN.{length, drop, length-append}
use lib.Seq.{drop-append_seam}
use lib.Dec.{T}
use lib.Ieee.{Float, binary32, fits}
use Rattle.spec.specs.Lists.{All}
use Rattle.spec_laws.proofs.Numbers.{be-bytes, float-float_bytes}
use Rattle.spec_laws.proofs.AnswerLength.{length-glyph_row, length_run, length-cluster_row, length-span_row}
use Rattle.spec.specs.Bytes.{be, bytes, float, float_bytes, rows, sizes}
use Rattle.spec.specs.declared.Run.{Run}
use Rattle.spec.specs.Answer.{GlyphRow, ClusterRow, SpanRow, ChunkRow, glyph_row_size, run_size, answer_count_bytes, glyph_row_bytes, cluster_row_bytes, run_bytes, span_row_bytes, chunk_row_bytes, answer_body, answer_bytes, glyph_row_of, cluster_row_of, cluster_row_size_of, run_of, span_row_of, span_row_size_of, cluster_part, span_part, chunk_row_of, chunk_row_size_of, read_answer}

-- ---- rows that fit their fields

abbrev pub Fits : Float → Type 0
Fits x = T (fits binary32 x)

pub record FitGlyphRow (g : GlyphRow) : Type 0 where
  pub id : g.id < 256 ^ 4
  pub font : g.font < 256 ^ 1
  pub x : Fits g.x
  pub y : Fits g.y

pub record FitClusterRow (c : ClusterRow) : Type 0 where
  pub index : c.index < 256 ^ 2
  pub flags : c.flags < 256 ^ 1
  pub width : Fits c.width
  pub advance : Fits c.advance
  pub spacing : Fits c.spacing
  pub ascent : Fits c.ascent
  pub descent : Fits c.descent
  pub nudge : Fits c.nudge
  pub scale : Fits c.scale
  pub x : Fits c.x
  pub y : Fits c.y
  pub angle : Fits c.angle
  pub count : length c.glyphs < 256 ^ 2
  pub glyphs : All FitGlyphRow c.glyphs

pub record FitRun (r : Run) : Type 0 where
  pub first : r.first < 256 ^ 2
  pub width : Fits r.width

pub record FitSpanRow (s : SpanRow) : Type 0 where
  pub index : s.index < 256 ^ 1
  pub x : Fits s.x
  pub y : Fits s.y
  pub baseline : Fits s.baseline
  pub thickness : Fits s.thickness
  pub under : Fits s.under
  pub over : Fits s.over
  pub through : Fits s.through
  pub count : length s.runs < 256 ^ 2
  pub runs : All FitRun s.runs

pub record FitChunkRow (c : ChunkRow) : Type 0 where
  pub pen_x : Fits c.pen_x
  pub pen_y : Fits c.pen_y
  pub cluster_count : length c.clusters < 256 ^ 2
  pub span_count : length c.spans < 256 ^ 1
  pub clusters : All FitClusterRow c.clusters
  pub spans : All FitSpanRow c.spans

-- ---- rows one after the other

module _ {A : Type 0} (P : A → Type 0) (write : A → List ℕ) (size : List ℕ → ℕ)
    (sized : (x : A) (after : List ℕ) → P x → size (write x ++ after) ≡ length (write x)) where
  past : (x : A) (xs : List A) (after : List ℕ) → P x → drop (size (flat_map write (x ∷ xs) ++ after)) (flat_map write (x ∷ xs) ++ after) ≡ flat_map write xs ++ after
  unfolding flat_map
  past x xs after p =
      rw (append_assoc (write x) (flat_map write xs) after, sized x (flat_map write xs ++ after) p) (drop-append_seam (write x) (flat_map write xs ++ after))

  -- they take as many bytes as were written
  pub sizes-written : (xs : List A) (after : List ℕ) → All P xs → sizes size (length xs) (flat_map write xs ++ after) ≡ length (flat_map write xs)
  unfolding flat_map sizes
  sizes-written [] after All.none = refl
  sizes-written (x ∷ xs) after (All.more p ps) =
      rw (length-append (write x) (flat_map write xs))
      (ap₂ ◌+◌ (rw (append_assoc (write x) (flat_map write xs) after) (sized x (flat_map write xs ++ after) p))
      (ap (sizes size (length xs)) (past x xs after p) ∙ sizes-written xs after ps))

  -- and are read back
  pub rows_written : (read : List ℕ → A) → ((x : A) (after : List ℕ) → P x → read (write x ++ after) ≡ x) → (xs : List A) (after : List ℕ) → All P xs
      → rows size read (length xs) (flat_map write xs ++ after) ≡ xs
  unfolding flat_map rows
  rows_written read h [] after All.none = refl
  rows_written read h (x ∷ xs) after (All.more p ps) =
      ap₂ ◌∷◌ (rw (append_assoc (write x) (flat_map write xs) after) (h x (flat_map write xs ++ after) p))
      (ap (rows size read (length xs)) (past x xs after p) ∙ rows_written read h xs after ps)

-- ---- a row each

pub read-glyph_row : (g : GlyphRow) (after : List ℕ) → FitGlyphRow g → glyph_row_of (glyph_row_bytes g ++ after) ≡ g
unfolding glyph_row_of glyph_row_bytes be bytes float float_bytes
read-glyph_row g after f =
    λ i. record { id = be-bytes 4 g.id [] f.id i; font = be-bytes 1 g.font [] f.font i; x = float-float_bytes g.x [] f.x i; y = float-float_bytes g.y [] f.y i }

pub read-run : (r : Run) (after : List ℕ) → FitRun r → run_of (run_bytes r ++ after) ≡ r
unfolding run_of run_bytes be bytes float float_bytes
read-run r after f = λ i. record { first = be-bytes 2 r.first [] f.first i; width = float-float_bytes r.width [] f.width i }

pub read-cluster_row : (c : ClusterRow) (after : List ℕ) → FitClusterRow c → cluster_row_of (cluster_row_bytes c ++ after) ≡ c
unfolding cluster_row_of cluster_row_bytes flat_map be bytes float float_bytes
read-cluster_row c after f =
    λ i. record {
      index = be-bytes 2 c.index [] f.index i;
      flags = be-bytes 1 c.flags [] f.flags i;
      width = float-float_bytes c.width [] f.width i;
      advance = float-float_bytes c.advance [] f.advance i;
      spacing = float-float_bytes c.spacing [] f.spacing i;
      ascent = float-float_bytes c.ascent [] f.ascent i;
      descent = float-float_bytes c.descent [] f.descent i;
      nudge = float-float_bytes c.nudge [] f.nudge i;
      scale = float-float_bytes c.scale [] f.scale i;
      x = float-float_bytes c.x [] f.x i;
      y = float-float_bytes c.y [] f.y i;
      angle = float-float_bytes c.angle [] f.angle i;
      glyphs = glyphs i;
    }
  where
    glyphs : rows (λ r. glyph_row_size) glyph_row_of (be 2 (bytes 2 (length c.glyphs) ++ [])) (flat_map glyph_row_bytes c.glyphs ++ after) ≡ c.glyphs
    glyphs = rw (be-bytes 2 (length c.glyphs) [] f.count) (rows_written FitGlyphRow glyph_row_bytes (λ r. glyph_row_size) (λ g a h. sym (length-glyph_row g)) glyph_row_of read-glyph_row c.glyphs after f.glyphs)

size-cluster_row : (c : ClusterRow) (after : List ℕ) → FitClusterRow c → cluster_row_size_of (cluster_row_bytes c ++ after) ≡ length (cluster_row_bytes c)
unfolding cluster_row_size_of cluster_row_bytes flat_map be bytes float_bytes
size-cluster_row c after f = ap (λ (n : ℕ). 45 + glyph_row_size * n) (be-bytes 2 (length c.glyphs) [] f.count) ∙ sym (length-cluster_row c)

pub read-span_row : (s : SpanRow) (after : List ℕ) → FitSpanRow s → span_row_of (span_row_bytes s ++ after) ≡ s
unfolding span_row_of span_row_bytes flat_map be bytes float float_bytes
read-span_row s after f =
    λ i. record {
      index = be-bytes 1 s.index [] f.index i;
      x = float-float_bytes s.x [] f.x i;
      y = float-float_bytes s.y [] f.y i;
      baseline = float-float_bytes s.baseline [] f.baseline i;
      thickness = float-float_bytes s.thickness [] f.thickness i;
      under = float-float_bytes s.under [] f.under i;
      over = float-float_bytes s.over [] f.over i;
      through = float-float_bytes s.through [] f.through i;
      runs = runs i;
    }
  where
    runs : rows (λ r. run_size) run_of (be 2 (bytes 2 (length s.runs) ++ [])) (flat_map run_bytes s.runs ++ after) ≡ s.runs
    runs = rw (be-bytes 2 (length s.runs) [] f.count) (rows_written FitRun run_bytes (λ r. run_size) (λ r a h. sym (length_run r)) run_of read-run s.runs after f.runs)

size-span_row : (s : SpanRow) (after : List ℕ) → FitSpanRow s → span_row_size_of (span_row_bytes s ++ after) ≡ length (span_row_bytes s)
unfolding span_row_size_of span_row_bytes flat_map be bytes float_bytes
size-span_row s after f = ap (λ (n : ℕ). 31 + run_size * n) (be-bytes 2 (length s.runs) [] f.count) ∙ sym (length-span_row s)

-- ---- a chunk

module _ (c : ChunkRow) (after : List ℕ) (f : FitChunkRow c) where
  -- what stands behind the counts and the pen, and behind the cluster rows
  abbrev span_bytes : List ℕ
  span_bytes = flat_map span_row_bytes c.spans ++ after

  abbrev row_bytes : List ℕ
  row_bytes = flat_map cluster_row_bytes c.clusters ++ span_bytes

  head : cluster_part (chunk_row_bytes c ++ after) ≡ row_bytes
  unfolding chunk_row_bytes bytes float_bytes
  head = append_assoc (flat_map cluster_row_bytes c.clusters) (flat_map span_row_bytes c.spans) after

  cluster_count : be 2 (chunk_row_bytes c ++ after) ≡ length c.clusters
  unfolding chunk_row_bytes be bytes
  cluster_count = be-bytes 2 (length c.clusters) [] f.cluster_count

  span_count : be 1 (drop 2 (chunk_row_bytes c ++ after)) ≡ length c.spans
  unfolding chunk_row_bytes be bytes
  span_count = be-bytes 1 (length c.spans) [] f.span_count

  cluster_sizes : sizes cluster_row_size_of (length c.clusters) row_bytes ≡ length (flat_map cluster_row_bytes c.clusters)
  cluster_sizes = sizes-written FitClusterRow cluster_row_bytes cluster_row_size_of size-cluster_row c.clusters span_bytes f.clusters

  behind : span_part (chunk_row_bytes c ++ after) ≡ span_bytes
  unfolding span_part
  behind = rw (cluster_count, head, cluster_sizes) (drop-append_seam (flat_map cluster_row_bytes c.clusters) span_bytes)

  pen_x : float (drop 3 (chunk_row_bytes c ++ after)) ≡ c.pen_x
  unfolding chunk_row_bytes bytes float float_bytes be
  pen_x = float-float_bytes c.pen_x [] f.pen_x

  pen_y : float (drop 7 (chunk_row_bytes c ++ after)) ≡ c.pen_y
  unfolding chunk_row_bytes bytes float float_bytes be
  pen_y = float-float_bytes c.pen_y [] f.pen_y

  clusters : rows cluster_row_size_of cluster_row_of (be 2 (chunk_row_bytes c ++ after)) (cluster_part (chunk_row_bytes c ++ after)) ≡ c.clusters
  clusters =
      rw (cluster_count, head)
      (rows_written FitClusterRow cluster_row_bytes cluster_row_size_of size-cluster_row cluster_row_of read-cluster_row c.clusters span_bytes f.clusters)

  spans : rows span_row_size_of span_row_of (be 1 (drop 2 (chunk_row_bytes c ++ after))) (span_part (chunk_row_bytes c ++ after)) ≡ c.spans
  spans = rw (span_count, behind) (rows_written FitSpanRow span_row_bytes span_row_size_of size-span_row span_row_of read-span_row c.spans after f.spans)

  pub read-chunk_row : chunk_row_of (chunk_row_bytes c ++ after) ≡ c
  unfolding chunk_row_of
  read-chunk_row = λ i. record { pen_x = pen_x i; pen_y = pen_y i; clusters = clusters i; spans = spans i }

  parts : length (chunk_row_bytes c) ≡ 11 + length (flat_map cluster_row_bytes c.clusters) + length (flat_map span_row_bytes c.spans)
  unfolding chunk_row_bytes bytes float_bytes
  parts = simp length-append (omega arith)

  size-chunk_row : chunk_row_size_of (chunk_row_bytes c ++ after) ≡ length (chunk_row_bytes c)
  unfolding chunk_row_size_of
  size-chunk_row =
      rw (cluster_count, span_count, head, behind, cluster_sizes, sizes-written FitSpanRow span_row_bytes span_row_size_of size-span_row c.spans after f.spans) (sym parts)

-- ---- an answer

pub read_answer_lem : (cs : List ChunkRow) (after : List ℕ) → length cs < 256 ^ answer_count_bytes → All FitChunkRow cs → read_answer (answer_bytes cs ++ after) ≡ cs
unfolding read_answer answer_bytes answer_body bytes be
read_answer_lem cs after h f = chunks
  where
    chunks : rows chunk_row_size_of chunk_row_of (be answer_count_bytes (bytes answer_count_bytes (length cs) ++ [])) (flat_map chunk_row_bytes cs ++ after) ≡ cs
    chunks =
        rw (be-bytes answer_count_bytes (length cs) [] h)
        (rows_written FitChunkRow chunk_row_bytes chunk_row_size_of size-chunk_row chunk_row_of read-chunk_row cs after f)
