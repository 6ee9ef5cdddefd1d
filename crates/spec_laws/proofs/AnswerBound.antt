-- An answer is at most 64 / 25 times as long as its job, so that a buffer of three times the job's bytes holds it. Assumes nothing.
use Prim.Native.Nat.{ℕ, ◌+◌, ◌*◌, ◌≤◌}
use mathlib.Core.Path.{◌≡◌, subst}
use mathlib.Core.List.{List, [], ◌∷◌, flat_map, foldl}
use native.Mathlib.Nat.{le_refl}
use native.Mathlib.Omega.{arith}
use lib.ListN.{length, drop, length-take, length-drop}
use lib.Dec.{T, leb→le, eqb→eq}
use Rattle.spec_laws.proofs.All.{all_of, all-every, first, rest}
use Rattle.spec.specs.Lists.{All}
use Rattle.spec_laws.proofs.IfGiven.{if-given, of-given, given-then}
use Rattle.spec_laws.proofs.Records.{length-rows}
use Rattle.spec_laws.proofs.Outcomes.{reached}
use Rattle.spec_laws.proofs.Accepted.{accepted}
use Rattle.spec_laws.proofs.AnswerLength.{length-answer, answer_length}
use Rattle.spec_laws.proofs.Sums.{total, total-append, total-counted, total-rows}
use Rattle.spec_laws.proofs.MergedLength.{glyph_rows_in, merged-length}
use Rattle.spec_laws.proofs.GlyphsShared.{Shared, adjusted-share}
use Rattle.spec_laws.proofs.RowSize.{Sized, row-length, laid_length, placed-sized, rows-length, rows-bytes}
use Rattle.spec.specs.Outcome.{Outcome, refused, given, IfGiven}
use Rattle.spec.specs.Bytes.{sizes}
use Rattle.spec.specs.declared.Glyph.{Glyph}
use Rattle.spec.specs.declared.Cluster.{Cluster}
use Rattle.spec.specs.Job.{Job, Chunk, SpanParts, limits}
use Rattle.spec.specs.Decode.{glyph_bytes, parts_of, glyph_count_at, span_size, chunk_of, text_length_at, text_size, span_count_at, span_count, span_bytes, chunk_size, job_of, shaped, chunk_count_at, chunk_count_bytes, chunk_count, chunk_bytes}
use Rattle.spec.specs.Check.{checked, after_version, length_ok, spans_ok}
use Rattle.spec.specs.Merge.{merge_glyphs}
use Rattle.spec.specs.Answer.{ChunkRow, chunk_row_bytes, answer_bytes, chunk_row_length}
use Rattle.spec.specs.Layout.{adjusted_clusters, Progress, beginning, place_chunk, layout_chunk, layout_job, rows_of, layout_rows}

-- ---- what a chunk has in the job at least: a glyph 25 bytes, a span 29 and its glyphs, a chunk 14, its text and its spans

abbrev pub parts_bytes : SpanParts → ℕ
parts_bytes p = 29 + glyph_bytes * length p.glyphs

abbrev pub chunk_least : Chunk → ℕ
chunk_least c = 14 + length c.text + total parts_bytes c.parts

parts-least : (bs : List ℕ) → parts_bytes (parts_of bs) ≤ span_size bs
unfolding parts_of span_size glyph_count_at
parts-least bs = rw length-rows (omega arith)

chunk-least : (bs : List ℕ) → chunk_least (chunk_of bs) ≤ chunk_size bs
unfolding chunk_of chunk_size span_count_at
chunk-least bs = omega (arith, length-take (text_size bs) (drop (text_length_at + 2) bs), total-rows parts_bytes span_size parts_of parts-least (span_count bs) (span_bytes bs))

shaped-least : (bs : List ℕ) → T (shaped bs) → total chunk_least (job_of bs).chunks ≤ length bs
unfolding shaped job_of
shaped-least bs t =
    let whole : chunk_count_at bs + chunk_count_bytes + sizes chunk_size (chunk_count bs) (chunk_bytes bs) ≡ length bs =
    eqb→eq _ _ (first (rest (rest (rest (rest (rest (rest (all-every _ t)))))))) in
    omega (arith, total-rows chunk_least chunk_size chunk_of chunk-least (chunk_count bs) (chunk_bytes bs))

-- with the length field and the version
pub job-least : (bs : List ℕ) (job : Job) → checked bs ≡ given job → 5 + total chunk_least job.chunks ≤ length bs
unfolding length_ok
job-least bs job e =
    let a = accepted bs job e in
    let long : 5 ≤ length bs = leb→le _ _ (first (all-every _ a.size)) in
    let chunks = subst (λ (j : Job). total chunk_least j.chunks ≤ length (drop 5 bs)) a.is (shaped-least (after_version bs) a.shape) in
    omega (arith, length-drop 5 bs)

-- ---- what it has in the answer

-- its row is at most 64 / 25 times as long
row-bound : (c : Chunk) (n k : ℕ) (r : ChunkRow) → n ≤ glyph_rows_in c.parts → k ≤ n → Sized n (length c.parts) k r → 25 * chunk_row_length r ≤ 64 * chunk_least c
row-bound c n k r h f z = omega (arith, row-length r, z.clusters, z.glyphs, z.spans, z.runs, total-counted 29 glyph_bytes (λ (p : SpanParts). length p.glyphs) c.parts)

-- so are the rows of chunks that have n bytes
abbrev pub Bounded : ℕ → Progress → Type 0
Bounded n st = 25 * total laid_length st.chunks ≤ 64 * n

module _ (job : Job) where
  placed-bound : (n : ℕ) (st : Progress) (c : Chunk) (gs : List Glyph) (cs : List Cluster) → T (spans_ok c) → length gs ≤ glyph_rows_in c.parts → Shared (length gs) (length gs) cs
      → Bounded n st → Bounded (n + chunk_least c) (place_chunk job st c gs cs)
  placed-bound n st c gs cs t m k h =
      let p = placed-sized job st c gs cs t (record { glyphs = k.glyphs; few = le_refl (length cs) }) in
      let l = p.laid in
      let long : total laid_length (place_chunk job st c gs cs).chunks ≡ total laid_length st.chunks + laid_length l = rw p.behind (omega (arith, total-append laid_length st.chunks (l ∷ []))) in
      omega (arith, long, row-bound c (length gs) (length cs) l.row m k.few p.sized)

  chunk-bound : (n : ℕ) (o : Outcome Progress) (c : Chunk) → T (spans_ok c) → IfGiven (Bounded n) o → IfGiven (Bounded (n + chunk_least c)) (layout_chunk job o c)
  unfolding layout_chunk
  chunk-bound n (refused k) c t h = tt
  chunk-bound n (given st) c t h =
      given-then (λ gs. length gs ≤ glyph_rows_in c.parts) (Bounded (n + chunk_least c)) (merge_glyphs c.parts) _ (if-given _ (merge_glyphs c.parts) (merged-length c.parts))
      (λ gs m. given-then (Shared (length gs) (length gs)) (Bounded (n + chunk_least c)) (adjusted_clusters job c gs) _ (adjusted-share job c gs) (λ cs k. placed-bound n st c gs cs t m k h))

  chunks-bound : (n m : ℕ) (o : Outcome Progress) {cs : List Chunk} → n + total chunk_least cs ≡ m → All (λ c. T (spans_ok c)) cs → IfGiven (Bounded n) o
      → IfGiven (Bounded m) (foldl (layout_chunk job) o cs)
  chunks-bound n m o e All.none h = let same : n ≡ m = omega arith in subst (λ (k : ℕ). IfGiven (Bounded k) o) same h
  chunks-bound n m o e (All.more {x = c} t ts) h = chunks-bound (n + chunk_least c) m (layout_chunk job o c) (omega arith) ts (chunk-bound n o c t h)

-- the bytes of a chunk that is laid out alone
pub chunk-bytes : (job : Job) (before : Progress) (c : Chunk) (st : Progress) → before.chunks ≡ [] → T (spans_ok c) → layout_chunk job (given before) c ≡ given st
    → 25 * length (flat_map chunk_row_bytes (rows_of st.chunks)) ≤ 64 * chunk_least c
chunk-bytes job before c st none t e =
    let b : Bounded (0 + chunk_least c) st = of-given (Bounded (0 + chunk_least c)) _ st (chunk-bound job 0 (given before) c t (rw none (omega arith))) e in
    omega (arith, rows-bytes st.chunks)

-- ---- the whole answer

abbrev BoundedRows : List ℕ → List ChunkRow → Type 0
BoundedRows bs rs = 25 * answer_length rs ≤ 64 * length bs

job-bound : (bs : List ℕ) (job : Job) → checked bs ≡ given job → IfGiven (λ ls. BoundedRows bs (rows_of ls)) (layout_job job)
unfolding layout_job answer_length
job-bound bs job e =
    let spans = all_of spans_ok job.chunks (accepted bs job e).spans in
    let least = job-least bs job e in
    given-then (Bounded (total chunk_least job.chunks)) (λ ls. BoundedRows bs (rows_of ls)) (foldl (layout_chunk job) (given beginning) job.chunks) _
    (chunks-bound job 0 _ (given beginning) (omega arith) spans (omega arith))
    (λ st b. omega (arith, rows-length st.chunks))

-- an answer of n bytes comes of a job of at least 25 / 64 n bytes
pub answer-bound : (bs : List ℕ) (rows : List ChunkRow) → layout_rows bs ≡ given rows → 25 * length (answer_bytes rows) ≤ 64 * length bs
unfolding layout_rows
answer-bound bs rows e =
    let bound =
    of-given (BoundedRows bs) (layout_rows bs) rows
    (given-then (λ job. checked bs ≡ given job) (BoundedRows bs) (checked bs) _ (if-given _ (checked bs) (λ job a. a))
    (λ job a. given-then (λ ls. BoundedRows bs (rows_of ls)) (BoundedRows bs) (layout_job job) _ (job-bound bs job a) (λ ls b. b))) e in
    rw length-answer bound

-- and no job has more than 65,536 bytes
pub answer-small : (bs : List ℕ) (rows : List ChunkRow) → layout_rows bs ≡ given rows → length (answer_bytes rows) ≤ 167_772
unfolding layout_rows length_ok
answer-small bs rows e =
    let job = reached (checked bs) _ rows e in
    let few : length bs ≤ limits.bytes = leb→le _ _ (first (rest (all-every _ (accepted bs job.0 job.1).size))) in
    omega (arith, answer-bound bs rows e)
