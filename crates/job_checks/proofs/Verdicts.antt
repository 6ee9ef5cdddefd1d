-- The answer says what the definitions' `checked` does: it is accepted exactly where that gives a job, and refused under the number
-- that that refuses with, from 1 to the highest of a check. Assumes nothing.
use Prim.Native.Nat.{ℕ, ◌<◌, ◌≤◌}
use mathlib.Core.Path.{◌≡◌, refl, ap, subst}
use mathlib.Core.Bool.{Bool, ◌&&◌}
use mathlib.Core.List.{List}
use native.Mathlib.Omega.{arith}
use lib.Dec.{T, ltb, leb, ltb→lt, leb→le}
use lib.Ieee.Fits.{and_l, and_r}
use Rattle.spec_laws.proofs.All.{all_of}
use Rattle.spec_laws.proofs.Outcomes.{first-keeps}
use Rattle.spec.specs.Lists.{all}
use Rattle.spec.specs.Outcome.{Outcome, refused, given, and_then, Check, first_failing}
use Rattle.spec.specs.Job as J
use Rattle.spec.specs.Decode.{job_of}
use Rattle.spec.specs.Check.{checks, checked, after_version}
use Rattle.spec.specs.declared.Job.{Job}
use Rattle.job_checks.specs.Verdict.{verdict_number, places_of, verdict_of}

-- the highest number of a check
abbrev pub highest : ℕ
highest = 6

abbrev is_number : ℕ → Bool
is_number n = ltb 0 n && leb n highest

-- the numbers of the checks lie from 1 to the highest, and so does that of the first that fails
abbrev Numbered : Outcome (Unit {0}) → Type 0
Numbered (refused n) = T (is_number n)
Numbered (given u) = Unit {0}

first-numbered : (bs : List ℕ) (n : ℕ) → first_failing checks bs ≡ refused n → (0 < n) × (n ≤ highest)
unfolding checks all
first-numbered bs n e =
    let t = subst Numbered e (first-keeps Numbered checks bs tt (all_of (λ (c : Check (List ℕ)). is_number c.number) checks tt)) in
    (ltb→lt 0 n (and_l (ltb 0 n) (leb n highest) t), leb→le n highest (and_r (ltb 0 n) (leb n highest) t))

-- a value where no check fails: whether it is given, and which refusal there is, is one for all values
abbrev after : {A : Type 0} → A → Outcome (Unit {0}) → Outcome A
after a o = and_then o (λ (passed : Unit {0}). given a)

first-refused : {A : Type 0} (a : A) (o : Outcome (Unit {0})) (n : ℕ) → after a o ≡ refused n → o ≡ refused n
unfolding and_then
first-refused a (refused m) n e = let same : m ≡ n = cc in ap refused same
first-refused a (given u) n e = cc

module _ {A B : Type 0} (a : A) (b : B) where
  same-given : (o : Outcome (Unit {0})) (x : A) → after a o ≡ given x → after b o ≡ given b
  unfolding and_then
  same-given (refused n) x e = cc
  same-given (given u) x e = refl

  same-refused : (o : Outcome (Unit {0})) (n : ℕ) → after a o ≡ refused n → after b o ≡ refused n
  unfolding and_then
  same-refused o n e = ap (after b) (first-refused a o n e)

module _ (bs : List ℕ) where
  abbrev job : J.Job
  job = job_of (after_version bs)

  pub accepted-where-given : (j : J.Job) → checked bs ≡ given j → verdict_of bs ≡ given (places_of bs)
  unfolding checked verdict_of
  accepted-where-given = same-given job (places_of bs) (first_failing checks bs)

  pub refused-where-refused : (n : ℕ) → checked bs ≡ refused n → verdict_of bs ≡ refused n
  unfolding checked verdict_of
  refused-where-refused = same-refused job (places_of bs) (first_failing checks bs)

  pub given-where-accepted : (p : Job) → verdict_of bs ≡ given p → checked bs ≡ given job
  unfolding checked verdict_of
  given-where-accepted = same-given (places_of bs) job (first_failing checks bs)

  pub refusal-where-refused : (n : ℕ) → verdict_of bs ≡ refused n → checked bs ≡ refused n
  unfolding checked verdict_of
  refusal-where-refused = same-refused (places_of bs) job (first_failing checks bs)

  -- document 01's number
  pub number-where-given : (j : J.Job) → checked bs ≡ given j → verdict_number (verdict_of bs) ≡ 0
  unfolding verdict_number
  number-where-given j e = ap verdict_number (accepted-where-given j e)

  pub number-where-refused : (n : ℕ) → checked bs ≡ refused n → verdict_number (verdict_of bs) ≡ n
  unfolding verdict_number
  number-where-refused n e = ap verdict_number (refused-where-refused n e)

  -- a refusal has a number from 1 to the highest, so 0 says that the job is accepted
  pub refusal-numbered : (n : ℕ) → verdict_of bs ≡ refused n → (0 < n) × (n ≤ highest)
  unfolding verdict_of
  refusal-numbered n e = first-numbered bs n (first-refused (places_of bs) (first_failing checks bs) n e)

  pub accepted-where-zero : verdict_number (verdict_of bs) ≡ 0 → verdict_of bs ≡ given (places_of bs)
  unfolding verdict_number verdict_of and_then
  accepted-where-zero = zero (first_failing checks bs) (λ n e. (first-numbered bs n e).0)
    where
      zero : (o : Outcome (Unit {0})) → ((n : ℕ) → o ≡ refused n → 0 < n) → verdict_number (after (places_of bs) o) ≡ 0 → after (places_of bs) o ≡ given (places_of bs)
      zero (refused n) h e = absurd (omega (arith, h n refl))
      zero (given u) h e = refl
