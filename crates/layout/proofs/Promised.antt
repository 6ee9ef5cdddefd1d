-- The call's whole promise: what is answered, and demand 3 of it. Assumes nothing.
use Prim.Native.Nat.{ℕ, suc, ◌<◌}
use mathlib.Core.Path.{◌≡◌, refl, sym, ap, subst, ◌∙◌}
use mathlib.Core.List.{List, [], ◌∷◌}
use native.Mathlib.Omega.{arith}
use lib.ListN.{length, get_or}
use Rattle.spec.specs.Lists.{All}
use Rattle.spec_laws.proofs.Counted.{IsByte}
use Rattle.spec_laws.proofs.NeverTooShort.{never-too-short, always-enough, length-bound, length-small}
use Rattle.error_bound.proofs.Answer.{near-answer}
use Rattle.spec.specs.Outcome.{Outcome, refused, given}
use Rattle.spec.specs.declared.Job.{Job}
use Rattle.spec.specs.Check.{checked}
use Rattle.spec.specs.Layout.{layout_of, number_of, length_of, buffer_after}
use Rattle.spec.specs.Exact.{NearAnswer}
use Rattle.job_rows.specs.Rows.{job_at}
use Rattle.layout.specs.Steps.{job_outcome, answered}
use Rattle.layout.specs.Called.{LayoutPromise}
use Rattle.layout.proofs.Answering.{Answers, call-given, call-refused}

-- bytes, each known by its place
pub bytes_of : (xs : List ℕ) → ((i : ℕ) → get_or xs i 0 < 256) → All IsByte xs
bytes_of [] h = All.none
bytes_of (x ∷ xs) h = All.more (h 0) (bytes_of xs (λ i. h (suc i)))

module _ (s old : List ℕ) where
  pub promised-given : (job : Job) {returned size : ℕ} {new : List ℕ} → All IsByte s → checked s ≡ given (job_at s job) → Answers (answered (job_outcome s job) (length old)) old returned size new → LayoutPromise s old returned size new
  promised-given job {returned} {size} {new} bs e a =
      let is : answered (job_outcome s job) (length old) ≡ layout_of s (length old) = sym (call-given s (length old) job e) in
      let number : returned ≡ number_of (layout_of s (length old)) = a.number ∙ ap number_of is in
      let written : size ≡ length_of (layout_of s (length old)) = a.written ∙ ap length_of is in
      let buffer : new ≡ buffer_after (layout_of s (length old)) old = a.buffer ∙ ap (λ (o : Outcome (List ℕ)). buffer_after o old) is in
      record {
        number = number;
        written = written;
        buffer = buffer;
        bound = rw written (length-bound s (length old));
        small = rw written (length-small s (length old));
        enough = λ h. rw number (never-too-short s (length old) h);
        always = λ h. rw number (always-enough s (length old) h);
        near = λ answer f. subst (NearAnswer (checked s)) (sym buffer) (near-answer s (length old) answer old bs f);
      }

  pub promised-refused : (k : ℕ) → checked s ≡ refused k → LayoutPromise s old k 0 old
  promised-refused k e =
      let is = call-refused s (length old) k e in
      record {
        number = rw is refl;
        written = rw is refl;
        buffer = rw is refl;
        bound = omega arith;
        small = omega arith;
        enough = λ h. rw is at (never-too-short s (length old) h);
        always = λ h. rw is at (always-enough s (length old) h);
        near = λ answer f. let same : refused k ≡ given answer = sym is ∙ f in let z : ◌≡◌ {A = ℕ} 0 1 = cc same in absurd (omega arith);
      }
