-- What is known of a chunk as its layout goes on: what the checks have shown, where its spans stand, and what their merge has given. Definitions only.
use Rattle.std.specs.Prelude.{ℕ, ◌*◌, ◌≤◌, ◌≡◌, List, length, take, drop, T}
use Rattle.spec.specs.Outcome.{given}
use Rattle.spec.specs.declared.Cluster.{Cluster}
use Rattle.spec.specs.Job.{limits}
use Rattle.spec.specs.Decode.{chunk_fits, chunk_of}
use Rattle.spec.specs.Check.{chunk_ok, spans_ok}
use Rattle.spec.specs.Merge.{merge_glyphs}
use Rattle.job_rows.specs.Rows.{parts_in, glyphs_at}
use Rattle.merge.specs.Source.{span_glyphs}
use Rattle.chunk.specs.declared.progress.NextChunk.{NextChunk}
use Rattle.chunk.specs.Steps.{chunk_in}

-- the chunk at `at` passes check 3
pub record ShapedChunk (s : List ℕ) (at : ℕ) : Type 0 where
  pub size : length s ≤ limits.bytes
  pub begins : at ≤ length s
  pub fits : T (chunk_fits (drop at s))

-- its n spans stand at the first n of the places
pub record SpansFound (s : List ℕ) (at : ℕ) (places : List ℕ) (n : ℕ) : Type 0 where
  pub few : n ≤ limits.spans
  pub parts : parts_in s (take n places) ≡ (chunk_of (drop at s)).parts

-- the chunk passes checks 3, 4 and 6; no more characters came before it than a record may have bytes, and for 25 of these no more than 64 bytes of
-- the answer: so no number overflows
pub record CheckedChunk (s : List ℕ) (next : NextChunk) : Type 0 where
  pub size : length s ≤ limits.bytes
  pub begins : next.at ≤ length s
  pub fits : T (chunk_fits (drop next.at s))
  pub ok : T (chunk_ok next.job.fonts (chunk_in s next))
  pub spans : T (spans_ok (chunk_in s next))
  pub offset : next.before.offset ≤ limits.bytes
  pub bytes : 25 * next.before.length ≤ 64 * limits.bytes

-- and its spans stand at the places `spans`
pub record SpannedChunk (s : List ℕ) (next : NextChunk) (spans : List ℕ) : Type 0 where
  pub checked : CheckedChunk s next
  pub few : length spans ≤ limits.spans
  pub parts : parts_in s spans ≡ (chunk_in s next).parts

-- the glyphs of span number `own` are the merged list as they stand
abbrev pub OwnMerged : List ℕ → List ℕ → ℕ → Type 0
OwnMerged s spans own = merge_glyphs (parts_in s spans) ≡ given (span_glyphs (parts_in s spans) own)

-- and their merged glyphs at the places `merged`
pub record MergedChunk (s : List ℕ) (next : NextChunk) (spans merged : List ℕ) : Type 0 where
  pub spanned : SpannedChunk s next spans
  pub few : length merged ≤ limits.merged
  pub glyphs : merge_glyphs (parts_in s spans) ≡ given (glyphs_at s merged)

-- tables with rows for n clusters
pub record TablesFor (n : ℕ) (clusters : List Cluster) (order spare : List ℕ) : Type 0 where
  pub rows : n ≤ length clusters
  pub ordered : n ≤ length order
  pub spared : n ≤ length spare
