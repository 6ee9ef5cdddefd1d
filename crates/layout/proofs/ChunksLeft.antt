-- The loop over the chunks of a checked job: what is known before each turn, and what a turn, a refusal and the end keep. Assumes nothing.
use Prim.Native.Nat.{ℕ, zero, suc, ◌+◌, ◌-◌, ◌*◌, ◌≤◌, ◌<◌, min}
use mathlib.Core.Path.{◌≡◌, refl, sym, ap, subst, ◌∙◌}
use mathlib.Core.Bool.{Bool, true, ◌&&◌}
use mathlib.Core.List.{List, [], ◌∷◌, flat_map, foldl}
use native.Mathlib.Nat.{not-suc-le-zero, add-zero}
use native.Mathlib.Omega.{arith}
use borrow.Author.Tests.{leb-true}
use lib.ListN.{length, drop}
use lib.Dec.{T}
use lib.Ieee.Fits.{and_l, and_r}
use Rattle.spec_laws.proofs.Accepted.{accepted}
use Rattle.spec_laws.proofs.Sums.{total}
use Rattle.spec_laws.proofs.AnswerBound.{chunk_least, job-least, chunk-bytes}
use Rattle.spec_laws.proofs.Characters.{chunk-characters}
use Rattle.spec.specs.Bytes.{rows, all_records}
use Rattle.spec.specs.Lists.{all}
use Rattle.spec.specs.Outcome.{Outcome, refused, given}
use Rattle.spec.specs.declared.Job.{Job}
use Rattle.spec.specs.Job as definitions
use Rattle.spec.specs.Decode.{chunk_count_bytes, chunk_size, chunk_fits, chunk_of}
use Rattle.spec.specs.Check.{chunk_ok, spans_ok}
use Rattle.spec.specs.Answer.{answer_head_size}
use Rattle.spec.specs.Layout.{Progress, beginning, layout_chunk}
use Rattle.job_rows.specs.Rows.{job_at, chunk_at}
use Rattle.job_rows.proofs.Walks.{rows-turn, rows-done}
use Rattle.wire.proofs.Places.{after-drops}
use Rattle.wire.proofs.Splice.{splice-none}
use Rattle.chunk.specs.declared.progress.Progress as chunk
use Rattle.chunk.specs.declared.progress.NextChunk.{NextChunk}
use Rattle.std.specs.Prelude.{Ok, Err}
use Rattle.std.specs.declared.result.Result.{Result}
use Rattle.spec.specs.declared.Refusal.{Refusal}
use Rattle.spec.specs.Refusal.{refusal_number, outcome_of}
use Rattle.chunk.specs.Checked.{CheckedChunk}
use Rattle.chunk.specs.Steps.{progress_of, written_bytes, progress_after, result_of, buffer_after_chunks, chunk_outcome, ChunkWritten}
use Rattle.layout.specs.Checked.{chunk_count_in, CheckedJob}
use Rattle.layout.specs.Steps.{fits_in, job_outcome}
use Rattle.layout.proofs.Outcomes.{refused-of, given-of}
use Rattle.layout.proofs.Prefixed.{FitsFrom, put-fits, refused-stays, measured-on, fits_on, put_on}

-- the `left` chunks that stand from `at` on
abbrev pub chunks_left : List ℕ → ℕ → ℕ → List definitions.Chunk
chunks_left s at left = rows chunk_size chunk_of left (drop at s)

-- the bytes that they have in the record at least
abbrev bytes_left : List ℕ → ℕ → ℕ → ℕ
bytes_left s at left = total chunk_least (chunks_left s at left)

module _ (s : List ℕ) (job : Job) where
  -- the chunks that are left, laid out
  abbrev pub rest_laid : chunk.Progress → ℕ → ℕ → Outcome Progress
  rest_laid before at left = foldl (layout_chunk (job_at s job)) (given (progress_of before)) (chunks_left s at left)

  -- they pass checks 3, 4 and 6; and the record's other bytes bound what came before them: no more characters, and for 25 bytes no more than 64 of
  -- the answer
  pub record Left (before : chunk.Progress) (at left : ℕ) : Type 0 where
    pub begins : at ≤ length s
    pub fits : T (all_records chunk_size chunk_fits left (drop at s))
    pub ok : T (all (chunk_ok job.fonts) (chunks_left s at left))
    pub spans : T (all spans_ok (chunks_left s at left))
    pub offset : before.offset + bytes_left s at left ≤ length s
    pub bytes : 25 * before.length + 64 * bytes_left s at left ≤ 64 * length s

  -- the chunks that are left end within the buffer, and with them put it is `whole`
  pub record Putting (out : List ℕ) (before : chunk.Progress) (at left : ℕ) (whole : List ℕ) : Type 0 where
    pub fits : FitsFrom (length out) before.length (rest_laid before at left)
    pub put : buffer_after_chunks out before.length (rest_laid before at left) ≡ whole

  -- before a turn: with the chunks that are left, the whole is the job's; and if it fits, so it is in the buffer, which held `old` at first
  pub record Laying (old out : List ℕ) (before : chunk.Progress) (at left : ℕ) : Type 0 where
    pub known : Left before at left
    pub held : length out ≡ length old
    pub laid : result_of before.length (rest_laid before at left) ≡ result_of answer_head_size (job_outcome s job)
    pub put : fits_in (length old) (job_outcome s job) ≡ true → Putting out before at left (buffer_after_chunks old answer_head_size (job_outcome s job))

-- ---- the first turn

fits-from : (room : ℕ) (o : Outcome Progress) → fits_in room o ≡ true → FitsFrom room answer_head_size o
unfolding fits_in
fits-from room (refused k) e = let z : ◌≡◌ {A = ℕ} 0 1 = cc in absurd (omega arith)
fits-from room (given st) e = leb-true (answer_head_size + length (written_bytes st)) room e

module _ {s : List ℕ} {job : Job} (k : CheckedJob s job) {at left : ℕ} (at-is : at ≡ job.chunks + chunk_count_bytes) (left_is : left ≡ chunk_count_in s job)
    {before : chunk.Progress} (before-is : before ≡ progress_after answer_head_size beginning) where
  chunks-are : chunks_left s at left ≡ (job_at s job).chunks
  chunks-are = rw (at-is, left_is) refl

  pub head : before.length ≡ answer_head_size
  unfolding progress_after written_bytes flat_map
  head = ap (λ (p : chunk.Progress). p.length) before-is

  pub begun : Left s job before at left
  unfolding progress_after
  begun =
      record {
        begins = rw at-is k.begins;
        fits = rw (at-is, left_is) k.fits;
        ok = rw chunks-are k.ok;
        spans = rw chunks-are (accepted s (job_at s job) k.passed).spans;
        offset = let none : before.offset ≡ 0 = ap (λ (p : chunk.Progress). p.offset) before-is in rw chunks-are (omega (arith, job-least s (job_at s job) k.passed));
        bytes = rw chunks-are (omega (arith, head, job-least s (job_at s job) k.passed));
      }

  pub begun-laid : rest_laid s job before at left ≡ job_outcome s job
  unfolding progress_after job_outcome
  begun-laid = rw (before-is, chunks-are) refl

  pub begun-laying : (out : List ℕ) → Laying s job out out before at left
  begun-laying out =
      record {
        known = begun;
        held = refl;
        laid = rw (begun-laid, head) refl;
        put = λ e. record { fits = rw (begun-laid, head) (fits-from (length out) (job_outcome s job) e); put = rw (begun-laid, head) refl };
      }

-- ---- a turn

pub each_turn : (size : List ℕ → ℕ) (ok : List ℕ → Bool) (n : ℕ) (bs : List ℕ) → 0 < n → T (all_records size ok n bs) → T (ok bs) × T (all_records size ok (n - 1) (drop (size bs) bs))
unfolding all_records
each_turn size ok zero bs h t = absurd (not-suc-le-zero h)
each_turn size ok (suc n) bs h t =
    let same : suc n - 1 ≡ n = omega arith in
    (and_l (ok bs) _ t, rw same (and_r (ok bs) _ t))

module _ (s : List ℕ) (job : Job) (before : chunk.Progress) (at left : ℕ) (h : 0 < left) where
  abbrev next : NextChunk
  next = record { job = job; at = at; before = before }

  abbrev here : definitions.Chunk
  here = chunk_at s job at

  abbrev others : List definitions.Chunk
  others = rows chunk_size chunk_of (left - 1) (drop (chunk_size (drop at s)) (drop at s))

  left_is : chunks_left s at left ≡ here ∷ others
  left_is = rows-turn chunk_size chunk_of left (drop at s) h

  pub then-laid : rest_laid s job before at left ≡ foldl (layout_chunk (job_at s job)) (chunk_outcome s next) others
  then-laid = rw left_is refl

  module _ (l : Left s job before at left) where
    all-ok : T (chunk_ok job.fonts here && all (chunk_ok job.fonts) others)
    unfolding all
    all-ok = subst (λ (cs : List definitions.Chunk). T (all (chunk_ok job.fonts) cs)) left_is l.ok

    all-spans : T (spans_ok here && all spans_ok others)
    unfolding all
    all-spans = subst (λ (cs : List definitions.Chunk). T (all spans_ok cs)) left_is l.spans

    pub chunk-checked : CheckedJob s job → CheckedChunk s next
    chunk-checked k =
        record {
          size = k.size;
          begins = l.begins;
          fits = (each_turn chunk_size chunk_fits left (drop at s) h l.fits).0;
          ok = and_l (chunk_ok job.fonts here) _ all-ok;
          spans = and_l (spans_ok here) _ all-spans;
          offset = let o = l.offset in let few = k.size in omega arith;
          bytes = let b = l.bytes in let few = k.size in omega arith;
        }

  module _ {old new : List ℕ} {r : Result chunk.Progress Refusal} (b : ChunkWritten before r old new (chunk_outcome s next)) where
    -- the chunk is refused, and with it the job
    module _ (e : Refusal) (r-is : r ≡ Err e) where
      refused-laid : rest_laid s job before at left ≡ refused (refusal_number e)
      refused-laid = then-laid ∙ rw (refused-of before.length (chunk_outcome s next) (ap outcome_of (sym r-is) ∙ b.laid)) (refused-stays (job_at s job) (refusal_number e) others)

      -- which then does not fit
      pub refused-laying : {first : List ℕ} → Laying s job first old before at left
          → (outcome_of r ≡ result_of answer_head_size (job_outcome s job)) × (fits_in (length first) (job_outcome s job) ≡ true → ⊥)
      unfolding result_of
      refused-laying y = (ap outcome_of r-is ∙ sym (ap (result_of before.length) refused-laid) ∙ y.laid, λ e. subst (FitsFrom (length old) before.length) refused-laid (y.put e).fits)

    -- the chunk is laid out and takes `size` bytes, and q is the place behind it
    module _ (after : chunk.Progress) (r-is : r ≡ Ok after) (size q : ℕ) (size_is : size ≡ chunk_size (drop at s)) (q-is : q ≡ min (at + size) (length s)) where
      went : (st : Progress) × (chunk_outcome s next ≡ given st) × (after ≡ progress_after before.length st)
      went = given-of before.length (chunk_outcome s next) (ap outcome_of (sym r-is) ∙ b.laid)

      abbrev st : Progress
      st = went.0

      behind : drop q s ≡ drop (chunk_size (drop at s)) (drop at s)
      behind = after-drops at size s q-is ∙ ap (λ (n : ℕ). drop n (drop at s)) size_is

      left-bytes : bytes_left s at left ≡ chunk_least here + bytes_left s q (left - 1)
      left-bytes = rw (left_is, behind) refl

      after-offset : after.offset ≤ before.offset + length here.text
      unfolding progress_after
      after-offset = rw went.2 (chunk-characters (job_at s job) (progress_of before) here st went.1)

      after-bytes : T (spans_ok here) → 25 * after.length ≤ 25 * before.length + 64 * chunk_least here
      unfolding progress_after written_bytes
      after-bytes t = let more = chunk-bytes (job_at s job) (progress_of before) here st refl t went.1 in rw went.2 (omega arith)

      after-left : Left s job before at left → Left s job after q (left - 1)
      after-left l =
          record {
            begins = omega arith;
            fits = rw behind (each_turn chunk_size chunk_fits left (drop at s) h l.fits).1;
            ok = rw behind (and_r (chunk_ok job.fonts here) _ (all-ok l));
            spans = rw behind (and_r (spans_ok here) _ (all-spans l));
            offset = let o = l.offset in omega (arith, left-bytes, after-offset);
            bytes = let o = l.bytes in omega (arith, left-bytes, after-bytes (and_l (spans_ok here) _ (all-spans l)));
          }

      whole-laid : rest_laid s job before at left ≡ foldl (layout_chunk (job_at s job)) (given st) (chunks_left s q (left - 1))
      whole-laid = then-laid ∙ rw (behind, went.1) refl

      -- the code's progress in the place of the definitions'
      stands : {A : Type 0} (f : ℕ → Outcome Progress → A) → f after.length (rest_laid s job after q (left - 1))
          ≡ f (before.length + length (written_bytes st)) (foldl (layout_chunk (job_at s job)) (given (progress_of (progress_after before.length st))) (chunks_left s q (left - 1)))
      unfolding progress_after
      stands f = ap (λ (p : chunk.Progress). f p.length (rest_laid s job p q (left - 1))) went.2

      module _ (kept : length new ≡ length old) where
        after-put : {whole : List ℕ} → Putting s job old before at left whole → Putting s job new after q (left - 1) whole
        unfolding progress_after
        after-put p =
            let cs = chunks_left s q (left - 1) in
            let n = before.length in
            let fits : FitsFrom (length old) n (foldl (layout_chunk (job_at s job)) (given st) cs) = subst (FitsFrom (length old) n) whole-laid p.fits in
            let new_is : new ≡ buffer_after_chunks old n (given st) = b.buffer ∙ ap (buffer_after_chunks old n) went.1 in
            let more : FitsFrom (length old) after.length (rest_laid s job after q (left - 1)) =
            subst (λ (p : chunk.Progress). FitsFrom (length old) p.length (rest_laid s job p q (left - 1))) (sym went.2) (fits_on (job_at s job) cs n st old fits) in
            record {
              fits = subst (λ (room : ℕ). FitsFrom room after.length (rest_laid s job after q (left - 1))) (sym kept) more;
              put = stands (buffer_after_chunks new) ∙ put_on (job_at s job) cs n st old fits new new_is ∙ ap (buffer_after_chunks old n) (sym whole-laid) ∙ p.put;
            }

        pub after-laying : {first : List ℕ} → Laying s job first old before at left → Laying s job first new after q (left - 1)
        after-laying y =
            record {
              known = after-left y.known;
              held = kept ∙ y.held;
              laid = stands result_of ∙ measured-on (job_at s job) (chunks_left s q (left - 1)) before.length st ∙ ap (result_of before.length) (sym whole-laid) ∙ y.laid;
              put = λ e. after-put (y.put e);
            }

-- ---- the end

module _ (s : List ℕ) (job : Job) (before : chunk.Progress) (at left : ℕ) (h : left ≤ 0) where
  none_left : rest_laid s job before at left ≡ given (progress_of before)
  none_left = rw (rows-done chunk_size chunk_of left (drop at s) h) refl

  laid_done : {first out : List ℕ} → Laying s job first out before at left → given before ≡ result_of answer_head_size (job_outcome s job)
  unfolding result_of progress_after written_bytes flat_map
  laid_done y =
      let whole : given before ≡ result_of before.length (rest_laid s job before at left) = rw (none_left, add-zero) refl in
      whole ∙ y.laid

  put-done : {out whole : List ℕ} → Putting s job out before at left whole → out ≡ whole
  unfolding buffer_after_chunks written_bytes flat_map
  put-done {out} p =
      let fits : before.length + 0 ≤ length out = subst (FitsFrom (length out) before.length) none_left p.fits in
      sym (splice-none out before.length) ∙ sym (put-fits out before.length [] fits) ∙ ap (buffer_after_chunks out before.length) (sym none_left) ∙ p.put

  pub laying-done : {first out : List ℕ} → Laying s job first out before at left
      → (given before ≡ result_of answer_head_size (job_outcome s job)) × (fits_in (length first) (job_outcome s job) ≡ true → out ≡ buffer_after_chunks first answer_head_size (job_outcome s job))
  laying-done y = (laid_done y, λ e. put-done (y.put e))
