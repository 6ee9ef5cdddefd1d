-- What the call leaves, from where its rows stand. Assumes nothing.
use Prim.Native.Nat.{ℕ, ◌+◌, ◌-◌, ◌≤◌, ◌<◌}
use mathlib.Core.Path.{◌≡◌, refl, sym, ap, subst, ◌∙◌}
use mathlib.Core.List.{List, [], ◌∷◌, ◌++◌, flat_map, foldl, append_assoc}
use native.Mathlib.Omega.{arith}
use borrow.Author.Tests.{le-leb, lt-leb}
use lib.ListN.{length, take, drop, length-append, length-map}
use lib.Seq.{drop_at, length-take-le}
use Rattle.spec_laws.proofs.Numbers.{length-bytes}
use Rattle.spec_laws.proofs.IfGiven.{of-given}
use Rattle.spec.specs.Outcome.{Outcome, refused, given, and_then, IfGiven}
use Rattle.spec.specs.Bytes.{bytes}
use Rattle.spec.specs.declared.Job.{Job}
use Rattle.spec.specs.Job as definitions
use Rattle.spec.specs.Job.{Chunk}
use Rattle.spec.specs.Answer.{ChunkRow, chunk_row_bytes, answer_version, answer_count_bytes, answer_head_size, answer_body, answer_bytes}
use Rattle.spec.specs.Merge.{merge_glyphs}
use Rattle.spec.specs.declared.Glyph.{Glyph}
use Rattle.spec.specs.declared.Cluster.{Cluster}
use Rattle.spec.specs.Check.{checked}
use Rattle.spec.specs.Layout.{LaidChunk, Progress, beginning, rows_of, adjusted_clusters, place_chunk, layout_chunk, layout_job, layout_rows, fitting, layout_of, number_of, length_of, buffer_after}
use Rattle.wire.specs.Splice.{splice}
use Rattle.job_rows.specs.Rows.{job_at}
use Rattle.chunk.specs.Steps.{written_bytes, buffer_after_chunks}
use Rattle.layout.specs.Steps.{job_outcome, answered}
use Rattle.layout.proofs.Copied.{answer_length, refused-unput, longer-unput, rows-put}

-- ---- a row for each chunk

placed-many : (j : definitions.Job) (st : Progress) (c : Chunk) (gs : List Glyph) (cs : List Cluster) → length (place_chunk j st c gs cs).chunks ≡ length st.chunks + 1
unfolding place_chunk
placed-many j st c gs [] = length-append st.chunks _
placed-many j st c gs (d ∷ ds) = length-append st.chunks _

module _ (j : definitions.Job) where
  abbrev Many : ℕ → Progress → Type 0
  Many k st = length st.chunks ≡ k

  chunk-many : (k : ℕ) (o : Outcome Progress) (c : Chunk) → IfGiven (Many k) o → IfGiven (Many (k + 1)) (layout_chunk j o c)
  unfolding layout_chunk and_then
  chunk-many k (refused n) c h = tt
  chunk-many k (given st) c h = go (merge_glyphs c.parts)
    where
      behind : (gs : List Glyph) (o : Outcome (List Cluster)) → IfGiven (Many (k + 1)) (and_then o (λ (cs : List Cluster). given (place_chunk j st c gs cs)))
      behind gs (refused n) = tt
      behind gs (given cs) = placed-many j st c gs cs ∙ ap (λ (n : ℕ). n + 1) h

      go : (m : Outcome (List Glyph)) → IfGiven (Many (k + 1)) (and_then m (λ (gs : List Glyph). and_then (adjusted_clusters j c gs) (λ (cs : List Cluster). given (place_chunk j st c gs cs))))
      go (refused n) = tt
      go (given gs) = behind gs (adjusted_clusters j c gs)

  pub chunks-many : (k : ℕ) (o : Outcome Progress) (cs : List Chunk) → IfGiven (Many k) o → IfGiven (Many (k + length cs)) (foldl (layout_chunk j) o cs)
  chunks-many k o [] h = let e : k ≡ k + 0 = omega arith in subst (λ (n : ℕ). IfGiven (Many n) o) e h
  chunks-many k o (c ∷ cs) h =
      let e : k + 1 + length cs ≡ k + length (c ∷ cs) = omega arith in
      subst (λ (n : ℕ). IfGiven (Many n) (foldl (layout_chunk j) (layout_chunk j o c) cs)) e (chunks-many (k + 1) (layout_chunk j o c) cs (chunk-many k o c h))

pub rows-many : (s : List ℕ) (job : Job) (st : Progress) → job_outcome s job ≡ given st → length (rows_of st.chunks) ≡ length (job_at s job).chunks
unfolding job_outcome
rows-many s job st e =
    let j = job_at s job in
    length-map st.chunks (λ (c : LaidChunk). c.row)
    ∙ of-given (Many j (0 + length j.chunks)) (job_outcome s job) st (chunks-many j 0 (given beginning) j.chunks refl) e ∙ omega arith

-- ---- the bytes of an answer

-- what stands before the rows
abbrev head_of : ℕ → ℕ → List ℕ
head_of size count = bytes 4 (size - 4) ++ (bytes 1 answer_version ++ bytes answer_count_bytes count)

module _ (rows : List ChunkRow) where
  abbrev body : List ℕ
  body = flat_map chunk_row_bytes rows

  length-body : length (answer_body rows) ≡ 2 + length body
  unfolding answer_body
  length-body = simp (length-append, length-bytes) (omega arith)

  pub answer-long : length (answer_bytes rows) ≡ answer_head_size + length body
  unfolding answer_bytes
  answer-long = simp (length-append, length-bytes) (omega (arith, length-body))

  -- its head, and then the rows
  answer-is : (size count : ℕ) → size ≡ answer_head_size + length body → count ≡ length rows → head_of size count ++ body ≡ answer_bytes rows
  unfolding answer_bytes answer_body
  answer-is size count e f =
      let n : size - 4 ≡ length (answer_body rows) = omega (arith, length-body) in
      rw (n, f) (append_assoc (bytes 4 (length (answer_body rows))) _ _ ∙ ap (λ (t : List ℕ). bytes 4 (length (answer_body rows)) ++ t) (append_assoc (bytes 1 answer_version) _ _))

-- a head put before what stands behind it
head-put : (old head rest : List ℕ) → length head + length rest ≤ length old → splice (splice old (length head) rest) 0 head ≡ (head ++ rest) ++ drop (length (head ++ rest)) old
unfolding splice
head-put old head rest h =
    let t : length (take (length head) old) ≡ length head = length-take-le (length head) old (omega arith) in
    let n : length head + length rest ≡ length (head ++ rest) = sym (length-append head rest) in
    let z : 0 + length head ≡ length head = omega arith in
    ap (λ (k : ℕ). head ++ drop k (take (length head) old ++ (rest ++ drop (length head + length rest) old))) z
    ∙ ap (λ (l : List ℕ). head ++ l) (drop_at (take (length head) old) _ (length head) t) ∙ sym (append_assoc head rest _)
    ∙ ap (λ (k : ℕ). (head ++ rest) ++ drop k old) n

-- ---- the three ways to answer

-- the number and the length that are returned, and the bytes `new` of a buffer that held `old`, are those of an outcome
pub record Answers (o : Outcome (List ℕ)) (old : List ℕ) (returned size : ℕ) (new : List ℕ) : Type 0 where
  pub number : returned ≡ number_of o
  pub written : size ≡ length_of o
  pub buffer : new ≡ buffer_after o old

module _ (o : Outcome Progress) (old : List ℕ) where
  abbrev room : ℕ
  room = length old

  pub answers-refused : (k : ℕ) {new : List ℕ} → o ≡ refused k → new ≡ buffer_after_chunks old answer_head_size o → Answers (answered o room) old k 0 new
  unfolding answered and_then
  answers-refused k e b = rw e (record { number = refl; written = refl; buffer = b ∙ refused-unput o old k e })

  module _ (st : Progress) (e : o ≡ given st) where
    abbrev rows : List ChunkRow
    rows = rows_of st.chunks

    pub answers-too-long : {new : List ℕ} → room < answer_length st → new ≡ buffer_after_chunks old answer_head_size o → Answers (answered o room) old 10 0 new
    unfolding answered and_then fitting written_bytes
    answers-too-long h b =
        rw (e, answer-long rows, lt-leb (answer_length st) room h) (record { number = refl; written = refl; buffer = b ∙ longer-unput o st e old h })

    -- the rows, and then the head
    pub answers-written : (size count : ℕ) {put new : List ℕ} → answer_length st ≤ room → size ≡ answer_length st → count ≡ length rows → put ≡ buffer_after_chunks old answer_head_size o
        → new ≡ splice put 0 (head_of size count) → Answers (answered o room) old 0 size new
    unfolding answered and_then fitting written_bytes
    answers-written size count h n c b₁ b₂ =
        let six : length (head_of size count) ≡ answer_head_size = simp (length-append, length-bytes) in
        let is : head_of size count ++ flat_map chunk_row_bytes rows ≡ answer_bytes rows = answer-is rows size count n c in
        let whole : splice (splice old answer_head_size (flat_map chunk_row_bytes rows)) 0 (head_of size count) ≡ answer_bytes rows ++ drop (length (answer_bytes rows)) old =
        subst (λ (k : ℕ). splice (splice old k (flat_map chunk_row_bytes rows)) 0 (head_of size count) ≡ answer_bytes rows ++ drop (length (answer_bytes rows)) old) six
        (head-put old (head_of size count) (flat_map chunk_row_bytes rows) (omega arith) ∙ ap (λ (a : List ℕ). a ++ drop (length a) old) is) in
        rw (e, answer-long rows, le-leb (answer_length st) room h) (record { number = refl; written = n ∙ sym (answer-long rows); buffer = b₂ ∙ ap (λ (l : List ℕ). splice l 0 (head_of size count)) (b₁ ∙ rows-put o st e old h) ∙ whole })

-- ---- the call

module _ (s : List ℕ) (room : ℕ) where
  pub call-given : (job : Job) → checked s ≡ given (job_at s job) → layout_of s room ≡ answered (job_outcome s job) room
  unfolding layout_of layout_rows layout_job and_then answered job_outcome
  call-given job e = rw e (go (foldl (layout_chunk (job_at s job)) (given beginning) (job_at s job).chunks))
    where
      go : (o : Outcome Progress) → and_then (and_then (and_then o (λ (st : Progress). given st.chunks)) (λ (cs : List LaidChunk). given (rows_of cs))) (fitting room)
          ≡ and_then o (λ (st : Progress). fitting room (rows_of st.chunks))
      go (refused n) = refl
      go (given st) = refl

  pub call-refused : (k : ℕ) → checked s ≡ refused k → layout_of s room ≡ refused k
  unfolding layout_of layout_rows and_then
  call-refused k e = rw e refl
