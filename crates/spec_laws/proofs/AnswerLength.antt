-- The length of an answer: what `answer_length` adds up from the counts is how many bytes there are. Assumes nothing.
use Prim.Native.Nat.{ℕ, suc, ◌+◌, ◌*◌}
use mathlib.Core.Path.{◌≡◌, refl, ap₂, ◌∙◌}
use mathlib.Core.List.{List, [], ◌∷◌, map, flat_map}
use native.Mathlib.Omega.{arith}
use lib.ListN.{length, length-append}
use lib.Ieee.{Float}
use Rattle.spec.specs.Bytes.{float_bytes}
use Rattle.spec.specs.declared.Run.{Run}
use Rattle.spec.specs.Answer.{GlyphRow, ClusterRow, SpanRow, ChunkRow, glyph_row_bytes, cluster_row_bytes, run_bytes, span_row_bytes, chunk_row_bytes, answer_body, answer_bytes, sum, glyph_row_size, run_size, answer_head_size, cluster_row_length, span_row_length, chunk_row_length}
use Rattle.spec_laws.proofs.Numbers.{length-bytes, length-float_bytes}

-- ---- rows one after the other

module _ {A : Type 0} (write : A → List ℕ) where
  -- each as long as `size` says of it
  pub length-flat_map : (size : A → ℕ) → ((x : A) → length (write x) ≡ size x) → (xs : List A) → length (flat_map write xs) ≡ sum (map size xs)
  unfolding flat_map
  length-flat_map size h [] = refl
  length-flat_map size h (x ∷ xs) = length-append (write x) (flat_map write xs) ∙ ap₂ ◌+◌ (h x) (length-flat_map size h xs)

  -- all of one size
  pub length-equal : (k : ℕ) → ((x : A) → length (write x) ≡ k) → (xs : List A) → length (flat_map write xs) ≡ k * length xs
  unfolding flat_map
  length-equal k h [] = omega arith
  length-equal k h (x ∷ xs) =
      let more : k + k * length xs ≡ k * suc (length xs) = omega arith in
      length-append (write x) (flat_map write xs) ∙ ap₂ ◌+◌ (h x) (length-equal k h xs) ∙ more

pub length-floats : (xs : List Float) → length (flat_map float_bytes xs) ≡ 4 * length xs
length-floats = length-equal float_bytes 4 length-float_bytes

-- ---- rows

pub length-glyph_row : (g : GlyphRow) → length (glyph_row_bytes g) ≡ glyph_row_size
unfolding glyph_row_bytes
length-glyph_row g = simp (length-append, length-bytes, length-float_bytes)

pub length_run : (r : Run) → length (run_bytes r) ≡ run_size
unfolding run_bytes
length_run r = simp (length-append, length-bytes, length-float_bytes)

pub length-cluster_row : (c : ClusterRow) → length (cluster_row_bytes c) ≡ cluster_row_length c
unfolding cluster_row_bytes
length-cluster_row c =
    simp (length-append, length-bytes, length-floats, length-equal glyph_row_bytes glyph_row_size length-glyph_row c.glyphs) (omega arith)

pub length-span_row : (s : SpanRow) → length (span_row_bytes s) ≡ span_row_length s
unfolding span_row_bytes
length-span_row s = simp (length-append, length-bytes, length-floats, length-equal run_bytes run_size length_run s.runs) (omega arith)

pub length-chunk_row : (c : ChunkRow) → length (chunk_row_bytes c) ≡ chunk_row_length c
unfolding chunk_row_bytes chunk_row_length
length-chunk_row c =
    simp (length-append, length-bytes, length-float_bytes, length-flat_map cluster_row_bytes cluster_row_length length-cluster_row c.clusters, length-flat_map span_row_bytes span_row_length length-span_row c.spans) (omega arith)

-- ---- the answer

unfoldable pub answer_length : List ChunkRow → ℕ
answer_length cs = answer_head_size + sum (map chunk_row_length cs)

pub length-answer : (cs : List ChunkRow) → length (answer_bytes cs) ≡ answer_length cs
unfolding answer_bytes answer_body answer_length
length-answer cs = simp (length-append, length-bytes, length-flat_map chunk_row_bytes chunk_row_length length-chunk_row cs) (omega arith)
