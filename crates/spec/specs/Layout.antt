-- The whole call: from a job's bytes to the answer's, or the refusal. Definitions only.
use Rattle.std.specs.Prelude.{ℕ, ◌+◌, Bool, cond, length, take, drop, leb, eqb, neg_ℤ, Float}
use mathlib.Core.List.{List, [], ◌∷◌, ◌++◌, map, foldl}
use Rattle.std.specs.Float.{binary32}
use Rattle.std.specs.Float.Ieee.{of_int}
use Rattle.spec.specs.Outcome.{Outcome, refused, given, and_then}
use Rattle.spec.specs.Single.{◌+ᶠ◌, +0}
use Rattle.spec.specs.Utf8.{characters}
use Rattle.spec.specs.Job.{Job, Chunk, SpanParts, Glyph, has_x, has_y, spans_of, font_at, no_font, top_to_bottom}
use Rattle.spec.specs.Check.{checked}
use Rattle.spec.specs.Merge.{merge_glyphs}
use Rattle.spec.specs.Group.{groups}
use Rattle.spec.specs.LetterSpacing.{apply_letter_spacing}
use Rattle.spec.specs.WordSpacing.{apply_word_spacing}
use Rattle.spec.specs.Position.{Positioned, resolve_relative_shifts, rotate_shifts, positioned, mark_relative_shifts}
use Rattle.spec.specs.Cluster.{Cluster, rounded, form_glyph_clusters}
use Rattle.spec.specs.WritingMode.{apply_writing_mode}
use Rattle.spec.specs.LengthAdjust.{apply_length_adjust}
use Rattle.spec.specs.Baseline.{resolve_baseline}
use Rattle.spec.specs.Decoration.{collect_decoration_spans, under_offset, over_offset, through_offset, thickness_of}
use Rattle.spec.specs.Answer.{Point, GlyphRow, ClusterRow, SpanRow, ChunkRow, answer_bytes}

-- ---- a chunk's clusters

-- steps 2 to 4, given the merged glyphs: the clusters, and which of them step 4 collapses
unfoldable pub letter_spaced_clusters : Job → Chunk → List Glyph → List Cluster
letter_spaced_clusters job c gs =
    let spans = spans_of c in
    apply_letter_spacing rounded spans (apply_writing_mode job.mode (map (form_glyph_clusters job.fonts spans) (groups spans gs)))

-- steps 5 and 6, with refusal 9
unfoldable pub adjusted_clusters : Job → Chunk → List Glyph → Outcome (List Cluster)
adjusted_clusters job c gs =
    apply_length_adjust (spans_of c) (apply_word_spacing rounded c.text (spans_of c) (letter_spaced_clusters job c gs))

-- step 7; `offset` characters come before the chunk
unfoldable pub resolve_clusters_positions_horizontal : Job → ℕ → Chunk → List Cluster → Positioned Float Cluster
resolve_clusters_positions_horizontal job offset c cs =
    let shifted = rotate_shifts rounded job.mode (resolve_relative_shifts rounded job c.text offset cs) in
    positioned rounded c.anchor (mark_relative_shifts job c.text offset shifted)

-- ---- a chunk's rows

-- a glyph's x is the earlier widths plus dx, its y −dy: the whole number is negated, so that dy 0 gives +0
unfoldable pub glyph_rows : Float → List Glyph → List GlyphRow
glyph_rows x [] = []
glyph_rows x (g ∷ gs) =
    record { id = g.id; font = g.font; x = x +ᶠ of_int binary32 g.dx; y = of_int binary32 (neg_ℤ g.dy) }
    ∷ glyph_rows (x +ᶠ of_int binary32 g.width) gs

-- a cluster's glyphs in the merged list
abbrev pub glyphs_of : List Glyph → Cluster → List Glyph
glyphs_of gs c = take c.count (drop c.from gs)

abbrev pub bit : Bool → ℕ → ℕ
bit b n = cond b n 0

-- upright and sideways occur top to bottom only
abbrev pub flags_of : ℕ → Cluster → ℕ
flags_of mode c =
    bit c.relative 1 + cond (eqb mode top_to_bottom) (cond c.upright 2 4) 0 + bit c.scaled 8 + bit c.rotated 16 + bit c.collapsed 32

unfoldable pub cluster_row : ℕ → List Glyph → Cluster → ClusterRow
cluster_row mode gs c =
    record {
      index = c.index;
      flags = flags_of mode c;
      width = c.width;
      advance = c.advance;
      spacing = c.spacing;
      ascent = c.ascent;
      descent = c.descent;
      nudge = c.nudge;
      scale = c.scale;
      x = c.x;
      y = c.y;
      angle = c.angle;
      glyphs = glyph_rows +0 (glyphs_of gs c);
    }

-- the span of index k, with the chunk's origin and clusters
unfoldable pub span_row : Job → Point → List Cluster → ℕ → SpanParts → SpanRow
span_row job origin cs k p =
    let s = p.span in
    let f = font_at job.fonts s.font in
    record {
      index = k;
      x = origin.x;
      y = origin.y;
      baseline = resolve_baseline job.mode f p;
      thickness = thickness_of f s;
      under = under_offset job.mode f s;
      over = over_offset job.mode f s;
      through = through_offset job.mode f s;
      runs = collect_decoration_spans s cs;
    }

-- the spans with a font, counted from k with the others
unfoldable pub span_rows : Job → Point → List Cluster → ℕ → List SpanParts → List SpanRow
span_rows job origin cs k [] = []
span_rows job origin cs k (p ∷ ps) =
    let rest = span_rows job origin cs (k + 1) ps in
    cond (eqb p.span.font no_font) rest (span_row job origin cs k p ∷ rest)

-- ---- the chunks in order

-- a chunk's row, with what is laid out and not written: its extent (right less left)
pub record LaidChunk : Type 0 where
  pub row : ChunkRow
  pub extent : Float

-- the pen, how many characters came before, the extent of the last chunk, and the chunks laid out
pub record Progress : Type 0 where
  pub pen : Point
  pub offset : ℕ
  pub extent : Float
  pub chunks : List LaidChunk

abbrev pub beginning : Progress
beginning = record { pen = record { x = +0; y = +0 }; offset = 0; extent = +0; chunks = [] }

-- the chunk's x and y, each taken from the pen where its flag is clear
abbrev pub origin_of : Point → Chunk → Point
origin_of pen c = record { x = cond (has_x c) c.x pen.x; y = cond (has_y c) c.y pen.y }

-- the origin plus the pair that step 7 returns, swapped top to bottom
unfoldable pub pen_after : ℕ → Point → Float → Float → Point
pen_after mode origin end_x end_y =
    cond (eqb mode top_to_bottom) (record { x = origin.x +ᶠ end_y; y = origin.y +ᶠ end_x }) (record { x = origin.x +ᶠ end_x; y = origin.y +ᶠ end_y })

-- the chunk is laid out, and the pen stands behind it; its characters count
abbrev pub advanced : Progress → Chunk → Point → LaidChunk → Progress
advanced st c pen laid = record { pen = pen; offset = st.offset + characters c.text; extent = laid.extent; chunks = st.chunks ++ (laid ∷ []) }

-- steps 7 and 8, with the merged glyphs and the clusters after step 6. A chunk with no cluster keeps the pen and has no span rows
unfoldable pub place_chunk : Job → Progress → Chunk → List Glyph → List Cluster → Progress
place_chunk job st c gs [] =
    let pen = st.pen in
    advanced st c pen (record { row = record { pen_x = pen.x; pen_y = pen.y; clusters = []; spans = [] }; extent = +0 })
place_chunk job st c gs (k ∷ ks) =
    let origin = origin_of st.pen c in
    let p = resolve_clusters_positions_horizontal job st.offset c (k ∷ ks) in
    let cs = p.clusters in
    let pen = pen_after job.mode origin p.end_x p.end_y in
    let row : ChunkRow = record { pen_x = pen.x; pen_y = pen.y; clusters = map (cluster_row job.mode gs) cs; spans = span_rows job origin cs 0 c.parts } in
    advanced st c pen (record { row = row; extent = p.extent })

-- the next chunk: 7 or 8 from the merge, then 9 from step 6
unfoldable pub layout_chunk : Job → Outcome Progress → Chunk → Outcome Progress
layout_chunk job (refused n) c = refused n
layout_chunk job (given st) c =
    and_then (merge_glyphs c.parts) (λ (gs : List Glyph).
    and_then (adjusted_clusters job c gs) (λ (cs : List Cluster). given (place_chunk job st c gs cs)))

unfoldable pub layout_job : Job → Outcome (List LaidChunk)
layout_job job = and_then (foldl (layout_chunk job) (given beginning) job.chunks) (λ (st : Progress). given st.chunks)

-- ---- the call

abbrev pub rows_of : List LaidChunk → List ChunkRow
rows_of cs = map (λ (c : LaidChunk). c.row) cs

-- the chunks that the job's own bytes give, or the refusal that they earn: any but 10
unfoldable pub layout_rows : List ℕ → Outcome (List ChunkRow)
layout_rows bs = and_then (checked bs) (λ (job : Job). and_then (layout_job job) (λ (cs : List LaidChunk). given (rows_of cs)))

-- 10 where the answer is longer than the lent buffer
unfoldable pub fitting : ℕ → List ChunkRow → Outcome (List ℕ)
fitting room rows = let answer = answer_bytes rows in cond (leb (length answer) room) (given answer) (refused 10)

unfoldable pub layout_of : List ℕ → ℕ → Outcome (List ℕ)
layout_of bs room = and_then (layout_rows bs) (fitting room)

-- ---- what the call returns and leaves: the number, the length, and the lent buffer's bytes

abbrev pub number_of : Outcome (List ℕ) → ℕ
number_of (refused n) = n
number_of (given answer) = 0

abbrev pub length_of : Outcome (List ℕ) → ℕ
length_of (refused n) = 0
length_of (given answer) = length answer

abbrev pub buffer_after : Outcome (List ℕ) → List ℕ → List ℕ
buffer_after (refused n) old = old
buffer_after (given answer) old = answer ++ drop (length answer) old
