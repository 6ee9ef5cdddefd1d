-- Chunks that are sure to be laid out, in a buffer that has room for any answer to their job: their rows go straight into it. Assumes nothing.
use Prim.Native.Nat.{ℕ, ◌+◌, ◌-◌, ◌*◌, ◌≤◌, ◌<◌, min}
use mathlib.Core.Path.{◌≡◌, refl, sym, ap, ◌∙◌}
use mathlib.Core.Bool.{true, false, ◌&&◌}
use mathlib.Core.List.{List, [], ◌∷◌, foldl}
use native.Mathlib.Omega.{arith}
use lib.ListN.{length, drop}
use lib.Dec.{T}
use Rattle.spec_laws.proofs.All.{and_left, and_right}
use Rattle.spec_laws.proofs.AnswerBound.{answer-bound}
use Rattle.spec.specs.Bytes.{rows, all_records}
use Rattle.spec.specs.Lists.{all}
use Rattle.spec.specs.Outcome.{given, and_then}
use Rattle.spec.specs.declared.Job.{Job}
use Rattle.spec.specs.Job as definitions
use Rattle.spec.specs.Decode.{chunk_size, chunk_fits, chunk_of}
use Rattle.spec.specs.Layout.{Progress, beginning, rows_of, layout_chunk, layout_job, layout_rows}
use Rattle.wire.proofs.Places.{after-drops}
use Rattle.job_rows.specs.Rows.{job_at}
use Rattle.job_rows.proofs.Walks.{rows-turn, rows-done}
use Rattle.chunk.specs.Sure.{sure}
use Rattle.chunk.specs.Steps.{written_bytes}
use Rattle.chunk.specs.Checked.{ShapedChunk}
use Rattle.chunk.proofs.NotRefused.{sure-laid}
use Rattle.layout.specs.Checked.{CheckedJob}
use Rattle.layout.specs.Steps.{job_outcome, fits_in}
use Rattle.layout.proofs.ChunksLeft.{chunks_left, each_turn}
use Rattle.layout.proofs.Answering.{answer-long}
use Rattle.layout.proofs.Copied.{answer_length, fits-of}

-- ---- the loop that asks

-- before a turn: the chunks that are left begin within the record and pass check 3, and whether they are sure decides whether those are that
-- stand from `first` on
pub record Asking (s : List ℕ) (first many at left : ℕ) : Type 0 where
  pub begins : at ≤ length s
  pub fits : T (all_records chunk_size chunk_fits left (drop at s))
  pub same : all sure (chunks_left s at left) ≡ all sure (chunks_left s first many)

module _ (s : List ℕ) {first many at left : ℕ} (y : Asking s first many at left) where
  module _ (h : 0 < left) where
    pub asked-chunk : (job : Job) → CheckedJob s job → ShapedChunk s at
    asked-chunk job k = record { size = k.size; begins = y.begins; fits = (each_turn chunk_size chunk_fits left (drop at s) h y.fits).0 }

    one_left : all sure (chunks_left s at left) ≡ (sure (chunk_of (drop at s)) && all sure (rows chunk_size chunk_of (left - 1) (drop (chunk_size (drop at s)) (drop at s))))
    unfolding all
    one_left = rw (rows-turn chunk_size chunk_of left (drop at s) h) refl

    pub asked-no : sure (chunk_of (drop at s)) ≡ false → false ≡ all sure (chunks_left s first many)
    asked-no e = sym (rw e at one_left) ∙ y.same

    pub asked-on : sure (chunk_of (drop at s)) ≡ true → (size q : ℕ) → size ≡ chunk_size (drop at s) → q ≡ min (at + size) (length s) → Asking s first many q (left - 1)
    asked-on e size q size_is q-is =
        let behind : drop q s ≡ drop (chunk_size (drop at s)) (drop at s) = after-drops at size s q-is ∙ ap (λ (n : ℕ). drop n (drop at s)) size_is in
        record {
          begins = omega arith;
          fits = rw behind (each_turn chunk_size chunk_fits left (drop at s) h y.fits).1;
          same = rw behind (sym (rw e at one_left)) ∙ y.same;
        }

  pub asked-all : left ≤ 0 → true ≡ all sure (chunks_left s first many)
  unfolding all
  asked-all h = sym (rw (rows-done chunk_size chunk_of left (drop at s) h) refl) ∙ y.same

-- ---- what is known then

all_laid : (job : definitions.Job) (st : Progress) (cs : List definitions.Chunk) → all sure cs ≡ true → (end : Progress) × (foldl (layout_chunk job) (given st) cs ≡ given end)
unfolding all
all_laid job st [] h = (st, refl)
all_laid job st (c ∷ cs) h =
    let one = sure-laid job st c (and_left (sure c) (all sure cs) h) in
    let others = all_laid job one.0 cs (and_right (sure c) (all sure cs) h) in
    (others.0, rw one.1 others.1)

module _ {s : List ℕ} {job : Job} (k : CheckedJob s job) where
  -- an answer has at most 64 / 25 of its job's bytes
  pub laid-short : (st : Progress) → job_outcome s job ≡ given st → 25 * answer_length st ≤ 64 * length s
  unfolding job_outcome layout_rows layout_job and_then written_bytes
  laid-short st e =
      let given-rows : layout_rows s ≡ given (rows_of st.chunks) = rw (k.passed, e) refl in
      omega (arith, answer-bound s (rows_of st.chunks) given-rows, answer-long (rows_of st.chunks))

  pub straight-fits : all sure (job_at s job).chunks ≡ true → (room : ℕ) → 64 * length s < room * 25 → fits_in room (job_outcome s job) ≡ true
  unfolding job_outcome
  straight-fits h room r =
      let laid = all_laid (job_at s job) beginning (job_at s job).chunks h in
      fits-of (job_outcome s job) laid.0 laid.1 room (omega (arith, laid-short laid.0 laid.1))
