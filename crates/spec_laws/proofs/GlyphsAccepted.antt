-- The merged glyphs of an accepted job: each passes checks 4 and 5, and its id is as wide as its field. Assumes nothing.
use Prim.Native.Nat.{ℕ, ◌+◌, ◌^◌, ◌<◌}
use mathlib.Core.Path.{◌≡◌, subst}
use mathlib.Core.Bool.{Bool}
use mathlib.Core.List.{List}
use lib.ListN.{length}
use lib.Dec.{T}
use lib.Ieee.Fits.{and_r}
use Rattle.spec_laws.proofs.All.{all_of, all-every, all_read, all_drop, both, first, rest}
use Rattle.spec_laws.proofs.Accepted.{accepted}
use Rattle.spec_laws.proofs.Counted.{IsByte, be-below, CountedParts, CountedChunk, counted}
use Rattle.spec_laws.proofs.Merged.{Kept, SpanKept, merged_keeps}
use Rattle.spec.specs.Outcome.{given}
use Rattle.spec.specs.Lists.{all, All}
use Rattle.spec.specs.declared.Glyph.{Glyph}
use Rattle.spec.specs.Job.{Job, Chunk, SpanParts}
use Rattle.spec.specs.Decode.{job_of, chunk_of, parts_of, glyph_of, glyph_count_at, span_count_at, span_bytes, chunk_count_at, chunk_count_bytes, chunk_bytes}
use Rattle.spec.specs.Utf8.{is_utf8, starts_at}
use Rattle.spec.specs.Check.{checked, after_version, values_ok, chunk_ok, parts_ok, glyph_ok, text_ok}
use Rattle.spec.specs.Merge.{merge_glyphs}

pub record AcceptedGlyph (job : Job) (c : Chunk) (g : Glyph) : Type 0 where
  pub id : g.id < 256 ^ 4
  pub ok : T (glyph_ok (length job.fonts) g)
  pub start : T (starts_at c.text g.index)

-- ---- ids, from the bytes

abbrev SmallId : Glyph → Type 0
SmallId g = g.id < 256 ^ 4

abbrev PartsIds : SpanParts → Type 0
PartsIds p = All SmallId p.glyphs

abbrev ChunkIds : Chunk → Type 0
ChunkIds c = All PartsIds c.parts

glyph-id : (bs : List ℕ) → All IsByte bs → SmallId (glyph_of bs)
unfolding glyph_of
glyph-id bs h = be-below 4 bs h

parts-ids : (bs : List ℕ) → All IsByte bs → PartsIds (parts_of bs)
unfolding parts_of
parts-ids bs h = all_read SmallId _ glyph_of glyph-id _ _ (all_drop (glyph_count_at bs + 2) h)

chunk-ids : (bs : List ℕ) → All IsByte bs → ChunkIds (chunk_of bs)
unfolding chunk_of span_bytes
chunk-ids bs h = all_read PartsIds _ parts_of parts-ids _ _ (all_drop (span_count_at bs + 1) h)

job-ids : (bs : List ℕ) → All IsByte bs → All ChunkIds (job_of bs).chunks
unfolding job_of chunk_bytes
job-ids bs h = all_read ChunkIds _ chunk_of chunk-ids _ _ (all_drop (chunk_count_at bs + chunk_count_bytes) h)

-- ---- with checks 4 and 5

abbrev starts : Chunk → SpanParts → Bool
starts c p = all (λ (g : Glyph). starts_at c.text g.index) p.glyphs

module _ (job : Job) where
  abbrev PartsPass : SpanParts → Type 0
  PartsPass p = PartsIds p × T (parts_ok (length job.fonts) p)

  parts-accepted : (c : Chunk) (p : SpanParts) → PartsPass p → T (starts c p) × CountedParts p → SpanKept (AcceptedGlyph job c) p
  unfolding parts_ok
  parts-accepted c p a b =
      let oks = all_of (glyph_ok (length job.fonts)) p.glyphs (first (rest (rest (rest (all-every _ a.1))))) in
      let pairs = both {R = λ g. SmallId g × T (glyph_ok (length job.fonts) g)} (λ g i o. (i, o)) a.0 oks in
      record {
        glyphs = both (λ g x s. record { id = x.0; ok = x.1; start = s }) pairs (all_of _ p.glyphs b.0);
        few = b.1.glyphs;
      }

  abbrev ChunkPasses : Chunk → Type 0
  ChunkPasses c = ChunkIds c × T (chunk_ok (length job.fonts) c)

  -- what the merge gives of a chunk's glyphs: at most 1,024, and each of them accepted
  abbrev pub MergedAccepted : Chunk → Type 0
  MergedAccepted c = (gs : List Glyph) → merge_glyphs c.parts ≡ given gs → Kept (AcceptedGlyph job c) gs

  chunk-accepted : (c : Chunk) → ChunkPasses c → T (text_ok c) × CountedChunk c → MergedAccepted c
  unfolding chunk_ok text_ok
  chunk-accepted c a b gs e =
      let oks = all_of (parts_ok (length job.fonts)) c.parts (first (rest (rest (rest (rest (rest (all-every _ a.1))))))) in
      let begun = all_of (starts c) c.parts (and_r (is_utf8 c.text) (all (starts c) c.parts) b.0) in
      merged_keeps (AcceptedGlyph job c) c.parts gs
      (both (parts-accepted c) (both {R = PartsPass} (λ p i o. (i, o)) a.0 oks) (both {R = λ p. T (starts c p) × CountedParts p} (λ p s n. (s, n)) begun b.1.parts)) e

  job-accepted : All ChunkIds job.chunks → T (values_ok job) → T (all text_ok job.chunks) → All CountedChunk job.chunks → All MergedAccepted job.chunks
  unfolding values_ok
  job-accepted ids values text counts =
      let oks = all_of (chunk_ok (length job.fonts)) job.chunks (first (rest (rest (rest (rest (rest (all-every _ values))))))) in
      both chunk-accepted (both {R = ChunkPasses} (λ c i o. (i, o)) ids oks)
      (both {R = λ c. T (text_ok c) × CountedChunk c} (λ c t n. (t, n)) (all_of text_ok job.chunks text) counts)

pub merged-accepted : (bs : List ℕ) (job : Job) → All IsByte bs → checked bs ≡ given job → All (MergedAccepted job) job.chunks
merged-accepted bs job h e =
    let a = accepted bs job e in
    let ids = subst (λ (j : Job). All ChunkIds j.chunks) a.is (job-ids (after_version bs) (all_drop 5 h)) in
    job-accepted job ids a.values a.text (counted bs job e).each
