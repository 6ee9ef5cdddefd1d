-- The exact layout of document 01: steps 1 and 2's choices, and steps 4 to 7 on fractions. It is fed the job alone. And demand 3. Definitions only.
use Rattle.std.specs.Prelude.{ℕ, ◌+◌, ◌/◌, ◌%◌, ◌^◌, ◌≡◌, Bool, cond, length, get_or, T, eqb, pos, Float}
use mathlib.Core.List.{List, [], ◌∷◌, foldl, zip_with}
use Rattle.std.specs.Float.Ieee.Scale.{finite as is_finite}
use Rattle.float_error.specs.Fraction.{Frac, 0ᵠ, ◌+ᵠ◌, ◌-ᵠ◌, ◌·ᵠ◌, ◌/ᵠ◌, negᵠ, absᵠ, ltᵠ, leᵠ, value_of}
use Rattle.spec.specs.Outcome.{Outcome, refused, given}
use Rattle.spec.specs.Lists.{any}
use Rattle.spec.specs.Single.{+0}
use Rattle.spec.specs.Job.{Job, Chunk, Span, Glyph, Font, spans_of, span_at, has_length, spreads}
use Rattle.spec.specs.Utf8.{characters}
use Rattle.spec.specs.Merge.{merge_glyphs}
use Rattle.spec.specs.Group.{Group, groups}
use Rattle.spec.specs.Arithmetic.{Arithmetic, glyph_advance, sum_advance, max_advance}
use Rattle.spec.specs.LetterSpacing.{apply_letter_spacing}
use Rattle.spec.specs.WordSpacing.{apply_word_spacing}
use Rattle.spec.specs.LengthAdjust.{adjust_spacing_of}
use Rattle.spec.specs.Position.{character_number, resolve_relative_shifts, rotate_shifts, positioned}
use Rattle.spec.specs.Cluster.{Cluster}
use Rattle.spec.specs.Answer.{ClusterRow, ChunkRow, read_answer}
use Rattle.spec.specs.Layout.{letter_spaced_clusters}

-- ---- the exact layout

-- collapsed: steps 2 and 4, rounded as in demand 2, collapse the cluster
pub record ExactCluster : Type 0 where
  pub group : Group
  pub collapsed : Bool
  pub width : Frac
  pub advance : Frac
  pub spacing : Frac
  pub x : Frac
  pub y : Frac

-- with other numbers along the line
abbrev pub with_fractions : Frac → Frac → Frac → Frac → Frac → ExactCluster → ExactCluster
with_fractions width advance spacing x y c =
    record { group = c.group; collapsed = c.collapsed; width = width; advance = advance; spacing = spacing; x = x; y = y }

-- every operation and comparison is done on fractions; the choice of step 4 is the rounded one
abbrev pub exact : Arithmetic
exact =
    record {
      Num = Frac;
      of_float = value_of;
      zero = 0ᵠ;
      times = ◌·ᵠ◌;
      ◌⊕◌ = ◌+ᵠ◌;
      ◌⊖◌ = ◌-ᵠ◌;
      ◌⊘◌ = ◌/ᵠ◌;
      halved = λ q. q /ᵠ 2;
      minus = negᵠ;
      less = ltᵠ;
      Cluster = ExactCluster;
      index = λ c. c.group.first.index;
      tag = λ c. c.group.first.tag;
      span = λ c. c.group.span;
      width = λ c. c.width;
      advance = λ c. c.advance;
      spacing = λ c. c.spacing;
      x = λ c. c.x;
      y = λ c. c.y;
      with_advance = λ a c. with_fractions c.width a c.spacing c.x c.y c;
      with_spacing = λ a l c. with_fractions c.width a l c.x c.y c;
      with_shift = λ x y c. with_fractions c.width c.advance c.spacing x y c;
      collapses = λ c. c.collapsed;
      collapse = λ c. with_fractions 0ᵠ 0ᵠ c.spacing c.x c.y c;
    }

-- step 2: a group's cluster, beside the one that the rounded steps 2 to 4 make of it
unfoldable pub exact_cluster : List Font → List Span → Group → Cluster → ExactCluster
exact_cluster fonts spans g c =
    let size = (span_at spans g.span).size in
    record {
      group = g;
      collapsed = c.collapsed;
      width = max_advance exact fonts size g.glyphs;
      advance = sum_advance exact fonts size g.glyphs;
      spacing = 0ᵠ;
      x = 0ᵠ;
      y = 0ᵠ;
    }

-- a cluster for each group: there are as many of the others (`as_many` in the crate spec_laws)
unfoldable pub formed_exactly : Job → Chunk → List Glyph → List ExactCluster
formed_exactly job c gs = zip_with (exact_cluster job.fonts (spans_of c)) (groups (spans_of c) gs) (letter_spaced_clusters job c gs)

-- step 6: of the ways of adjusting SpacingAndGlyphs changes no advance
unfoldable pub adjust_span_exactly : List ExactCluster → Span → List ExactCluster
adjust_span_exactly cs s = cond (spreads s) (adjust_spacing_of exact s cs) cs

-- steps 4 to 7; `offset` characters come before the chunk
unfoldable pub layout_exactly : Job → ℕ → Chunk → List ExactCluster → List ExactCluster
layout_exactly job offset c cs =
    let spaced = apply_word_spacing exact c.text (spans_of c) (apply_letter_spacing exact (spans_of c) cs) in
    let adjusted = foldl adjust_span_exactly spaced (spans_of c) in
    (positioned exact c.anchor (rotate_shifts exact job.mode (resolve_relative_shifts exact job c.text offset adjusted))).clusters

-- ---- the distance allowed

-- g: the glyphs that stand in clusters, collapsed or not
unfoldable pub glyph_total : List ExactCluster → ℕ
glyph_total cs = foldl (λ (n : ℕ) (c : ExactCluster). n + length c.group.glyphs) 0 cs

abbrev pub size_of : Float → Frac
size_of x = absᵠ (value_of x)

-- a cluster's part of T: its glyphs' exact advances, its span's letter and word spacing, and the dx and dy of its character
unfoldable pub cluster_sizes : Job → ℕ → Chunk → Group → Frac
cluster_sizes job offset c g =
    let s = span_at (spans_of c) g.span in
    let cp = character_number c.text offset g.first.index in
    foldl (λ (t : Frac) (a : Glyph). t +ᵠ absᵠ (glyph_advance exact job.fonts s.size a)) 0ᵠ g.glyphs
    +ᵠ size_of s.letter +ᵠ size_of s.word +ᵠ size_of (get_or job.dx cp +0) +ᵠ size_of (get_or job.dy cp +0)

-- T: the clusters' parts, and each span's text length
unfoldable pub size_total : Job → ℕ → Chunk → List ExactCluster → Frac
size_total job offset c cs =
    foldl (λ (t : Frac) (s : Span). t +ᵠ size_of s.length)
    (foldl (λ (t : Frac) (q : ExactCluster). t +ᵠ cluster_sizes job offset c q.group) 0ᵠ cs) (spans_of c)

-- the power of 2 that divides the distance: 20 in a chunk in which no span has a text length, 18 in any other
abbrev pub sharpness : Chunk → ℕ
sharpness c = cond (any has_length (spans_of c)) 18 20

-- (g + 3) × T ÷ 2 ^ sharpness
unfoldable pub allowed : Job → ℕ → Chunk → List ExactCluster → Frac
allowed job offset c cs = pos (glyph_total cs + 3) ·ᵠ size_total job offset c cs /ᵠ (2 ^ sharpness c)

-- ---- demand 3

-- as many of the one as of the other, and R of each two that stand at the same place
pub data AllPairs {A B : Type 0} (R : A → B → Type 0) : List A → List B → Type 0 where
  none : AllPairs R [] []
  more : {a : A} {b : B} {xs : List A} {ys : List B} → R a b → AllPairs R xs ys → AllPairs R (a ∷ xs) (b ∷ ys)

-- a cluster of an answer beside the exact one: the same byte index; marked as collapsed exactly where the rounded steps collapse it;
-- shift x finite, and at most b from the exact one
pub record Near (b : Frac) (row : ClusterRow) (q : ExactCluster) : Type 0 where
  pub index : row.index ≡ q.group.first.index
  pub collapsed : eqb (row.flags / 32 % 2) 1 ≡ q.collapsed
  pub finite : T (is_finite row.x)
  pub distance : T (leᵠ (absᵠ (value_of row.x -ᵠ q.x)) b)

-- an answer's chunk, given the merged glyphs of the job's: as many clusters, each near
unfoldable pub NearChunk : Job → ℕ → Chunk → Outcome (List Glyph) → ChunkRow → Type 0
NearChunk job offset c (refused n) row = ⊥
NearChunk job offset c (given gs) row =
    let cs = formed_exactly job c gs in
    AllPairs (Near (allowed job offset c cs)) row.clusters (layout_exactly job offset c cs)

-- as many chunks, each near
unfoldable pub NearChunks : Job → ℕ → List Chunk → List ChunkRow → Type 0
NearChunks job offset [] [] = Unit {0}
NearChunks job offset [] (row ∷ rows) = ⊥
NearChunks job offset (c ∷ cs) [] = ⊥
NearChunks job offset (c ∷ cs) (row ∷ rows) =
    NearChunk job offset c (merge_glyphs c.parts) row × NearChunks job (offset + characters c.text) cs rows

-- an answer's bytes, of the checked job
unfoldable pub NearAnswer : Outcome Job → List ℕ → Type 0
NearAnswer (refused n) answer = ⊥
NearAnswer (given job) answer = NearChunks job 0 job.chunks (read_answer answer)
