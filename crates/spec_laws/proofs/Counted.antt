-- The counts of an accepted job are within their limits, and its numbers are as wide as their fields. Assumes nothing.
use Prim.Native.Nat.{ℕ, zero, suc, ◌^◌, ◌≤◌, ◌<◌}
use mathlib.Core.Path.{◌≡◌, subst}
use mathlib.Core.Bool.{Bool}
use mathlib.Core.List.{List}
use native.Mathlib.Nat.{pow-suc, mul-le-mul_right}
use native.Mathlib.Omega.{arith}
use lib.ListN.{length, drop, length-take}
use lib.Dec.{T, leb→le, lit<}
use lib.Ieee.Fits.{and_l, and_r}
use Rattle.spec_laws.proofs.All.{all-every, all_get_d, first, rest}
use Rattle.spec.specs.Lists.{All}
use Rattle.spec_laws.proofs.Records.{length-rows}
use Rattle.spec_laws.proofs.Accepted.{accepted}
use Rattle.spec.specs.Outcome.{given}
use Rattle.spec.specs.Bytes.{be, rows, all_records}
use Rattle.spec.specs.Job.{Job, Chunk, SpanParts, limits}
use Rattle.spec.specs.Decode.{shaped, job_of, chunk_of, chunk_fits, chunk_size, parts_of, span_fits, span_size, text_size, span_count, span_bytes, chunk_count, chunk_bytes}
use Rattle.spec.specs.Check.{checked, after_version}

-- ---- numbers of bytes

abbrev pub IsByte : ℕ → Type 0
IsByte b = b < 256

-- k bytes hold a number below 256 ^ k
pub be-below : (k : ℕ) (bs : List ℕ) → All IsByte bs → be k bs < 256 ^ k
unfolding be
be-below zero bs h = lit< tt
be-below (suc k) bs h =
    let last = all_get_d {P = IsByte} k 0 (lit< tt) h in
    rw pow-suc (omega (arith, mul-le-mul_right 256 (be-below k bs h), last))

-- ---- counts

-- records that each pass: what passing says of the record that is read
pub all-each : {A : Type 0} (P : A → Type 0) (size : List ℕ → ℕ) (ok : List ℕ → Bool) (read : List ℕ → A) → ((bs : List ℕ) → T (ok bs) → P (read bs)) → (n : ℕ) (bs : List ℕ)
    → T (all_records size ok n bs) → All P (rows size read n bs)
unfolding rows all_records
all-each P size ok read h zero bs t = All.none
all-each P size ok read h (suc n) bs t = All.more (h bs (and_l (ok bs) _ t)) (all-each P size ok read h n (drop (size bs) bs) (and_r (ok bs) _ t))

pub record CountedParts (p : SpanParts) : Type 0 where
  pub shifts : length p.shifts ≤ limits.shifts
  pub glyphs : length p.glyphs ≤ limits.glyphs

pub record CountedChunk (c : Chunk) : Type 0 where
  pub text : length c.text ≤ limits.text
  pub spans : length c.parts ≤ limits.spans
  pub parts : All CountedParts c.parts

pub record CountedJob (j : Job) : Type 0 where
  pub fonts : length j.fonts ≤ limits.fonts
  pub chunks : length j.chunks ≤ limits.chunks
  pub each : All CountedChunk j.chunks

parts-counted : (bs : List ℕ) → T (span_fits bs) → CountedParts (parts_of bs)
unfolding span_fits parts_of
parts-counted bs t =
    let conditions = all-every _ t in
    record {
      shifts = rw length-rows (leb→le _ _ (first conditions));
      glyphs = rw length-rows (leb→le _ _ (first (rest conditions)));
    }

pub chunk-counted : (bs : List ℕ) → T (chunk_fits bs) → CountedChunk (chunk_of bs)
unfolding chunk_fits chunk_of
chunk-counted bs t =
    let conditions = all-every _ t in
    let few : text_size bs ≤ limits.text = leb→le _ _ (first conditions) in
    record {
      text = rw length-take (omega arith);
      spans = rw length-rows (leb→le _ _ (first (rest conditions)));
      parts = all-each CountedParts span_size span_fits parts_of parts-counted (span_count bs) (span_bytes bs) (first (rest (rest (rest conditions))));
    }

job-counted : (bs : List ℕ) → T (shaped bs) → CountedJob (job_of bs)
unfolding shaped job_of
job-counted bs t =
    let conditions = all-every _ t in
    let from-chunks = rest (rest (rest (rest conditions))) in
    record {
      fonts = rw length-rows (leb→le _ _ (first conditions));
      chunks = rw length-rows (leb→le _ _ (first from-chunks));
      each = all-each CountedChunk chunk_size chunk_fits chunk_of chunk-counted (chunk_count bs) (chunk_bytes bs) (first (rest from-chunks));
    }

pub counted : (bs : List ℕ) (job : Job) → checked bs ≡ given job → CountedJob job
counted bs job e =
    let a = accepted bs job e in
    subst CountedJob a.is (job-counted (after_version bs) a.shape)
