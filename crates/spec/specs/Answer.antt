-- An answer's rows, their bytes, how many these are, and the rows that an answer's bytes hold. Definitions only.
pub use Rattle.spec.specs.declared.Point.{Point}
use Rattle.std.specs.Prelude.{ℕ, ◌+◌, ◌*◌, length, drop, Float}
use mathlib.Core.List.{List, [], ◌∷◌, ◌++◌, map, flat_map, foldr}
use Rattle.spec.specs.Bytes.{be, bytes, float, float_bytes, rows, sizes}
use Rattle.spec.specs.Decoration.{Run}

-- ---- rows

-- a glyph: x and y in font units
pub record GlyphRow : Type 0 where
  pub id : ℕ
  pub font : ℕ
  pub x : Float
  pub y : Float

-- flags: 1 relative shift, 2 upright, 4 sideways, 8 scaled, 16 rotated, 32 collapsed
pub record ClusterRow : Type 0 where
  pub index : ℕ
  pub flags : ℕ
  pub width : Float
  pub advance : Float
  pub spacing : Float
  pub ascent : Float
  pub descent : Float
  pub nudge : Float
  pub scale : Float
  pub x : Float
  pub y : Float
  pub angle : Float
  pub glyphs : List GlyphRow

-- a span with a font: its index among all spans of the chunk, and the origin
pub record SpanRow : Type 0 where
  pub index : ℕ
  pub x : Float
  pub y : Float
  pub baseline : Float
  pub thickness : Float
  pub under : Float
  pub over : Float
  pub through : Float
  pub runs : List Run

-- the pen is as it is after the chunk
pub record ChunkRow : Type 0 where
  pub pen_x : Float
  pub pen_y : Float
  pub clusters : List ClusterRow
  pub spans : List SpanRow

-- ---- sizes, from the counts; how many bytes each count has

abbrev pub glyph_row_size : ℕ
glyph_row_size = 13

abbrev pub run_size : ℕ
run_size = 6

abbrev pub cluster_row_size : ℕ → ℕ
cluster_row_size glyphs = 45 + glyph_row_size * glyphs

abbrev pub span_row_size : ℕ → ℕ
span_row_size runs = 31 + run_size * runs

-- before a chunk's cluster rows: two counts and the pen
abbrev pub chunk_head_size : ℕ
chunk_head_size = 11

-- the record version that is written
abbrev pub answer_version : ℕ
answer_version = 1

abbrev pub answer_count_bytes : ℕ
answer_count_bytes = 1

-- before the first chunk: length, version and chunk count
abbrev pub answer_head_size : ℕ
answer_head_size = 5 + answer_count_bytes

-- ---- rows as bytes

unfoldable pub glyph_row_bytes : GlyphRow → List ℕ
glyph_row_bytes g = bytes 4 g.id ++ (bytes 1 g.font ++ (float_bytes g.x ++ float_bytes g.y))

unfoldable pub cluster_row_bytes : ClusterRow → List ℕ
cluster_row_bytes c =
    bytes 2 c.index ++ (bytes 1 c.flags
    ++ (flat_map float_bytes (c.width ∷ c.advance ∷ c.spacing ∷ c.ascent ∷ c.descent ∷ c.nudge ∷ c.scale ∷ c.x ∷ c.y ∷ c.angle ∷ [])
    ++ (bytes 2 (length c.glyphs) ++ flat_map glyph_row_bytes c.glyphs)))

unfoldable pub run_bytes : Run → List ℕ
run_bytes r = bytes 2 r.first ++ float_bytes r.width

unfoldable pub span_row_bytes : SpanRow → List ℕ
span_row_bytes s =
    bytes 1 s.index
    ++ (flat_map float_bytes (s.x ∷ s.y ∷ s.baseline ∷ s.thickness ∷ s.under ∷ s.over ∷ s.through ∷ [])
    ++ (bytes 2 (length s.runs) ++ flat_map run_bytes s.runs))

unfoldable pub chunk_row_bytes : ChunkRow → List ℕ
chunk_row_bytes c =
    bytes 2 (length c.clusters) ++ (bytes 1 (length c.spans) ++ (float_bytes c.pen_x ++ (float_bytes c.pen_y
    ++ (flat_map cluster_row_bytes c.clusters ++ flat_map span_row_bytes c.spans))))

-- the answer after its length field
unfoldable pub answer_body : List ChunkRow → List ℕ
answer_body cs = bytes 1 answer_version ++ (bytes answer_count_bytes (length cs) ++ flat_map chunk_row_bytes cs)

unfoldable pub answer_bytes : List ChunkRow → List ℕ
answer_bytes cs = let body = answer_body cs in bytes 4 (length body) ++ body

-- ---- how many bytes they are

abbrev pub sum : List ℕ → ℕ
sum ns = foldr ◌+◌ 0 ns

abbrev pub cluster_row_length : ClusterRow → ℕ
cluster_row_length c = cluster_row_size (length c.glyphs)

abbrev pub span_row_length : SpanRow → ℕ
span_row_length s = span_row_size (length s.runs)

unfoldable pub chunk_row_length : ChunkRow → ℕ
chunk_row_length c = chunk_head_size + sum (map cluster_row_length c.clusters) + sum (map span_row_length c.spans)

-- ---- the rows that an answer's bytes hold

unfoldable pub glyph_row_of : List ℕ → GlyphRow
glyph_row_of bs = record { id = be 4 bs; font = be 1 (drop 4 bs); x = float (drop 5 bs); y = float (drop 9 bs) }

unfoldable pub cluster_row_of : List ℕ → ClusterRow
cluster_row_of bs =
    record {
      index = be 2 bs;
      flags = be 1 (drop 2 bs);
      width = float (drop 3 bs);
      advance = float (drop 7 bs);
      spacing = float (drop 11 bs);
      ascent = float (drop 15 bs);
      descent = float (drop 19 bs);
      nudge = float (drop 23 bs);
      scale = float (drop 27 bs);
      x = float (drop 31 bs);
      y = float (drop 35 bs);
      angle = float (drop 39 bs);
      glyphs = rows (λ r. glyph_row_size) glyph_row_of (be 2 (drop 43 bs)) (drop 45 bs);
    }

unfoldable pub cluster_row_size_of : List ℕ → ℕ
cluster_row_size_of bs = cluster_row_size (be 2 (drop 43 bs))

unfoldable pub run_of : List ℕ → Run
run_of bs = record { first = be 2 bs; width = float (drop 2 bs) }

unfoldable pub span_row_of : List ℕ → SpanRow
span_row_of bs =
    record {
      index = be 1 bs;
      x = float (drop 1 bs);
      y = float (drop 5 bs);
      baseline = float (drop 9 bs);
      thickness = float (drop 13 bs);
      under = float (drop 17 bs);
      over = float (drop 21 bs);
      through = float (drop 25 bs);
      runs = rows (λ r. run_size) run_of (be 2 (drop 29 bs)) (drop 31 bs);
    }

unfoldable pub span_row_size_of : List ℕ → ℕ
span_row_size_of bs = span_row_size (be 2 (drop 29 bs))

-- the bytes from the first cluster row on, and from the first span row on
abbrev pub cluster_part : List ℕ → List ℕ
cluster_part bs = drop chunk_head_size bs

unfoldable pub span_part : List ℕ → List ℕ
span_part bs = drop (sizes cluster_row_size_of (be 2 bs) (cluster_part bs)) (cluster_part bs)

unfoldable pub chunk_row_of : List ℕ → ChunkRow
chunk_row_of bs =
    record {
      pen_x = float (drop 3 bs);
      pen_y = float (drop 7 bs);
      clusters = rows cluster_row_size_of cluster_row_of (be 2 bs) (cluster_part bs);
      spans = rows span_row_size_of span_row_of (be 1 (drop 2 bs)) (span_part bs);
    }

unfoldable pub chunk_row_size_of : List ℕ → ℕ
chunk_row_size_of bs =
    chunk_head_size + sizes cluster_row_size_of (be 2 bs) (cluster_part bs) + sizes span_row_size_of (be 1 (drop 2 bs)) (span_part bs)

-- the chunks of an answer, in order
unfoldable pub read_answer : List ℕ → List ChunkRow
read_answer bs = rows chunk_row_size_of chunk_row_of (be answer_count_bytes (drop 5 bs)) (drop answer_head_size bs)
