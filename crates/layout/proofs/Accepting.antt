-- A job that passes the checks has the places that the steps ask for: what stands there is the job. Assumes nothing.
use Prim.Native.Nat.{ℕ, ◌+◌, ◌≤◌}
use mathlib.Core.Path.{◌≡◌, refl, sym, ap, subst, ◌∙◌}
use mathlib.Core.List.{List}
use native.Mathlib.Omega.{arith}
use lib.ListN.{length, drop, length-drop}
use lib.Seq.{drop-drop}
use lib.Dec.{T, leb→le, eqb→eq}
use Rattle.spec_laws.proofs.All.{all-every, first, rest}
use Rattle.spec_laws.proofs.Records.{length-rows}
use Rattle.spec_laws.proofs.Accepted.{accepted}
use Rattle.spec.specs.Outcome.{given}
use Rattle.spec.specs.Lists.{all}
use Rattle.spec.specs.Bytes.{be, sizes}
use Rattle.spec.specs.declared.Job.{Job}
use Rattle.spec.specs.Decode.{shaped, job_of, dx_at, dy_at, rotate_at, chunk_count_at, chunk_count_bytes, chunk_count, chunk_bytes, chunk_size}
use Rattle.spec.specs.Check.{checked, after_version, length_ok, values_ok, chunk_ok}
use Rattle.job_rows.specs.Rows.{fonts_in, job_at}
use Rattle.job_checks.specs.Verdict.{places_of, verdict_of}
use Rattle.job_checks.proofs.Places.{behind-version}
use Rattle.job_checks.proofs.Verdicts.{given-where-accepted, accepted-where-given}
use Rattle.layout.specs.Checked.{chunk_count_in, CheckedJob}

-- ---- the record's places are its job's

module _ (s : List ℕ) where
  abbrev rest_of : List ℕ
  rest_of = after_version s

  count_at : chunk_count rest_of ≡ chunk_count_in s (places_of s)
  unfolding places_of chunk_count
  count_at = ap (be chunk_count_bytes) (sym (behind-version s (chunk_count_at rest_of)))

  chunks-at : chunk_bytes rest_of ≡ drop ((places_of s).chunks + chunk_count_bytes) s
  unfolding places_of chunk_bytes
  chunks-at =
      let at : 5 + (chunk_count_at rest_of + 1) ≡ 5 + chunk_count_at rest_of + 1 = omega arith in
      drop-drop (chunk_count_at rest_of + 1) 5 s ∙ ap (λ (n : ℕ). drop n s) at

  job-at : job_of rest_of ≡ job_at s (places_of s)
  unfolding job_of places_of fonts_in
  job-at =
      rw (← (behind-version s 2), ← (behind-version s (dx_at rest_of)), ← (behind-version s (dy_at rest_of)), ← (behind-version s (rotate_at rest_of)), count_at, chunks-at) refl

module _ (s : List ℕ) (job : Job) (e : verdict_of s ≡ given job) where
  places-are : job ≡ places_of s
  places-are = let same = accepted-where-given s (job_of (after_version s)) (given-where-accepted s job e) in cc

  job_is : job_of (after_version s) ≡ job_at s job
  job_is = job-at s ∙ ap (job_at s) (sym places-are)

  pub job-given : checked s ≡ given (job_at s job)
  job-given = given-where-accepted s job e ∙ ap given job_is

  pub checked-job : CheckedJob s job
  unfolding length_ok shaped values_ok places_of fonts_in
  checked-job =
      let a = accepted s (job_at s job) job-given in
      let size = all-every _ a.size in
      let shape = rest (rest (rest (rest (all-every _ a.shape)))) in
      let least : 5 ≤ length s = leb→le _ _ (first size) in
      let ends : chunk_count_at (after_version s) + chunk_count_bytes + sizes chunk_size (chunk_count (after_version s)) (chunk_bytes (after_version s)) ≡ length (after_version s) = eqb→eq _ _ (first (rest (rest shape))) in
      let behind = length-drop 5 s in
      let at : job.chunks ≡ 5 + chunk_count_at (after_version s) = ap (λ (j : Job). j.chunks) places-are in
      record {
        passed = job-given;
        size = leb→le _ _ (first (rest size));
        begins = omega (arith, ends);
        fits = rw places-are (rw (count_at s, chunks-at s) at (first (rest shape)));
        ok = subst (λ (n : ℕ). T (all (chunk_ok n) (job_at s job).chunks)) (length-rows _ _ _ _) (first (rest (rest (rest (rest (rest (all-every _ a.values)))))));
      }
