-- The rows of the answer in a buffer, and copied from one buffer to another. Assumes nothing.
use Prim.Native.Nat.{ℕ, ◌+◌, ◌-◌, ◌≤◌, ◌<◌}
use mathlib.Core.Path.{◌≡◌, refl, sym, ap, ◌∙◌}
use mathlib.Core.Bool.{true}
use mathlib.Core.List.{List, ◌++◌}
use native.Mathlib.Omega.{arith}
use borrow.Author.Tests.{le-leb, lt-leb}
use lib.ListN.{length, take, drop}
use lib.Seq.{drop_at, take-append_seam, length-take-le}
use Rattle.spec.specs.Outcome.{Outcome, refused, given}
use Rattle.spec.specs.Answer.{answer_head_size}
use Rattle.spec.specs.Layout.{Progress}
use Rattle.wire.specs.Splice.{splice}
use Rattle.chunk.specs.declared.progress.Progress as chunk
use Rattle.chunk.specs.Steps.{written_bytes, progress_after, buffer_after_chunks}
use Rattle.answer_rows.specs.Chunks.{splice_if_fits}
use Rattle.layout.specs.Steps.{fits_in}

-- what was put stands there
part-put : {A : Type 0} (l : List A) (at : ℕ) (bs : List A) → at ≤ length l → take (length bs) (drop at (splice l at bs)) ≡ bs
unfolding splice
part-put l at bs h =
    let rest = drop (at + length bs) l in
    ap (take (length bs)) (drop_at (take at l) (bs ++ rest) at (length-take-le at l h)) ∙ take-append_seam bs rest

-- how long an answer is
abbrev pub answer_length : Progress → ℕ
answer_length st = answer_head_size + length (written_bytes st)

pub end-length : (st : Progress) {end : chunk.Progress} → end ≡ progress_after answer_head_size st → end.length ≡ answer_length st
unfolding progress_after
end-length st e = ap (λ (r : chunk.Progress). r.length) e

module _ (o : Outcome Progress) where
  pub refused-unput : (l : List ℕ) (k : ℕ) → o ≡ refused k → buffer_after_chunks l answer_head_size o ≡ l
  unfolding buffer_after_chunks
  refused-unput l k e = rw e refl

  module _ (st : Progress) (e : o ≡ given st) where
    pub longer-unput : (l : List ℕ) → length l < answer_length st → buffer_after_chunks l answer_head_size o ≡ l
    unfolding buffer_after_chunks splice_if_fits
    longer-unput l h = rw (e, lt-leb (answer_length st) (length l) h) refl

    pub rows-put : (l : List ℕ) → answer_length st ≤ length l → buffer_after_chunks l answer_head_size o ≡ splice l answer_head_size (written_bytes st)
    unfolding buffer_after_chunks splice_if_fits
    rows-put l h = rw (e, le-leb (answer_length st) (length l) h) refl

    pub fits-of : (room : ℕ) → answer_length st ≤ room → fits_in room o ≡ true
    unfolding fits_in
    fits-of room h = rw (e, le-leb (answer_length st) room h) refl

    -- from the buffer that was `blank`, where they were put, to the one that was `old`
    pub rows-copied : (size : ℕ) (blank old : List ℕ) {staged new : List ℕ} → size ≡ answer_length st → size ≤ length blank → size ≤ length old
        → staged ≡ buffer_after_chunks blank answer_head_size o → new ≡ splice old answer_head_size (take (size - answer_head_size) (drop answer_head_size staged))
        → new ≡ buffer_after_chunks old answer_head_size o
    rows-copied size blank old {staged} n h k staged-is New-is =
        let m : size - answer_head_size ≡ length (written_bytes st) = omega arith in
        let is : take (size - answer_head_size) (drop answer_head_size staged) ≡ written_bytes st =
        rw (m, staged-is, rows-put blank (omega arith)) (part-put blank answer_head_size (written_bytes st) (omega arith)) in
        New-is ∙ ap (splice old answer_head_size) is ∙ sym (rows-put old (omega arith))
