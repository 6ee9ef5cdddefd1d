-- The places of a job in its record: what stands there is what the definitions find in the bytes after the version. Assumes nothing.
use Prim.Native.Nat.{ℕ, ◌+◌, ◌<◌}
use mathlib.Core.Path.{◌≡◌, sym}
use mathlib.Core.List.{List}
use native.Mathlib.Omega.{arith}
use lib.ListN.{drop}
use lib.Seq.{drop-drop}
use Rattle.spec.specs.declared.Job.{Job}
use Rattle.spec.specs.Bytes.{be}
use Rattle.spec.specs.Decode.{list_size, chunk_count_at, chunk_count, chunk_bytes}
use Rattle.spec.specs.Check.{after_version}
use Rattle.job_checks.specs.Verdict.{places_of}
use Rattle.job_checks.specs.Checks.{Found}

module _ (s : List ℕ) where
  pub behind-version : (n : ℕ) → drop (5 + n) s ≡ drop n (after_version s)
  behind-version n = sym (drop-drop n 5 s)

  -- a list stands at p, and the next place is behind its k bytes
  pub next_place : (p k n : ℕ) (list : List ℕ) → p ≡ 5 + n → list ≡ drop p s → k ≡ list_size list → p + k ≡ 5 + (n + list_size (drop n (after_version s)))
  next_place p k n list p-is list-is k-is = rw (k-is, list-is, p-is, behind-version n) (omega arith)

  -- at a record's chunk count: the bytes from the first chunk on, and the count
  pub chunks-read : {job : Job} {counted chunks : List ℕ} {n : ℕ} → job ≡ places_of s → counted ≡ drop job.chunks s → chunks ≡ drop 1 counted → n ≡ be 1 counted → n < 256
      → Found s job chunks n
  unfolding places_of chunk_bytes chunk_count
  chunks-read {counted = counted} job_is counted_is chunks-is n-is small =
      let at = chunk_count_at (after_version s) in
      let here : counted ≡ drop at (after_version s) = rw (counted_is, job_is, behind-version at) in
      record { places = job_is; chunks = rw (chunks-is, here, drop-drop 1 at (after_version s)); count = rw (n-is, here); byte = small }
