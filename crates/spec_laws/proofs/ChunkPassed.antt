-- What checks 3 and 4 say of a chunk, from its bytes alone: its counts, and its merged glyphs. Assumes nothing.
use Prim.Native.Nat.{ℕ}
use mathlib.Core.Path.{◌≡◌}
use mathlib.Core.List.{List}
use lib.Dec.{T}
use Rattle.spec_laws.proofs.All.{all_of, all-every, both, first, rest}
use Rattle.spec.specs.Lists.{All}
use Rattle.spec_laws.proofs.Counted.{CountedParts, CountedChunk, chunk-counted}
use Rattle.spec_laws.proofs.Merged.{Kept, SpanKept, merged_keeps}
use Rattle.spec.specs.Outcome.{given}
use Rattle.spec.specs.declared.Glyph.{Glyph}
use Rattle.spec.specs.Job.{Chunk, SpanParts}
use Rattle.spec.specs.Decode.{chunk_fits, chunk_of}
use Rattle.spec.specs.Check.{chunk_ok, parts_ok, glyph_ok}
use Rattle.spec.specs.Merge.{merge_glyphs}

module _ (fonts : ℕ) where
  abbrev pub PassedGlyph : Glyph → Type 0
  PassedGlyph g = T (glyph_ok fonts g)

  parts-passed : (p : SpanParts) → T (parts_ok fonts p) → CountedParts p → SpanKept PassedGlyph p
  unfolding parts_ok
  parts-passed p t n = record { glyphs = all_of (glyph_ok fonts) p.glyphs (first (rest (rest (rest (all-every _ t))))); few = n.glyphs }

  chunk-passed : (c : Chunk) → T (chunk_ok fonts c) → CountedChunk c → All (SpanKept PassedGlyph) c.parts
  unfolding chunk_ok
  chunk-passed c t n =
      let oks = all_of (parts_ok fonts) c.parts (first (rest (rest (rest (rest (rest (all-every _ t))))))) in
      both parts-passed oks n.parts

  -- the merged glyphs pass check 4, and there are at most 1,024
  pub merged-passed : (bs : List ℕ) → T (chunk_fits bs) → T (chunk_ok fonts (chunk_of bs)) → (gs : List Glyph) → merge_glyphs (chunk_of bs).parts ≡ given gs → Kept PassedGlyph gs
  merged-passed bs f t gs e = merged_keeps PassedGlyph (chunk_of bs).parts gs (chunk-passed (chunk_of bs) t (chunk-counted bs f)) e
