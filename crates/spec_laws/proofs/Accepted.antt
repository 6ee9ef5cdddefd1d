-- What a job that is accepted by checks 1 to 6 has: each check passes, and every float is in range. Assumes nothing.
use Prim.Native.Nat.{ℕ}
use mathlib.Core.Path.{◌≡◌, sym, ap, ◌∙◌, subst}
use mathlib.Core.Bool.{Bool, true, false}
use mathlib.Core.List.{List}
use lib.Dec.{T, eqb→eq}
use lib.Ieee.{Float, binary32, fits, of_bits, eq}
use lib.Ieee.Bits.{of_bits-fits, of_bits-to_bits}
use Rattle.spec_laws.proofs.All.{all_of, all-every, all-rows, both, first, rest}
use Rattle.spec_laws.proofs.Outcomes.{reached, passes_under, passed-under}
use Rattle.spec.specs.Outcome.{given, first_failing}
use Rattle.spec.specs.Lists.{all, All}
use Rattle.spec.specs.Bytes.{float}
use Rattle.spec.specs.Single.{is_zero_bits}
use Rattle.spec.specs.declared.Span.{Span}
use Rattle.spec.specs.Job.{Job, Chunk, SpanParts, Shift, has_x, has_y, has_length}
use Rattle.spec.specs.Decode.{shaped, job_of, chunk_of, parts_of, span_of, shift_of, list_of}
use Rattle.spec.specs.Check.{checks, checked, after_version, length_ok, version_ok, values_ok, chunk_ok, parts_ok, span_ok, shift_ok, size_ok, float_ok, flagged_ok, text_ok, spans_ok}

-- ---- each check passes

pub record Accepted (bs : List ℕ) (job : Job) : Type 0 where
  pub is : job_of (after_version bs) ≡ job
  pub size : T (length_ok bs)
  pub version : T (version_ok bs)
  pub shape : T (shaped (after_version bs))
  pub values : T (values_ok job)
  pub text : T (all text_ok job.chunks)
  pub spans : T (all spans_ok job.chunks)

pub accepted : (bs : List ℕ) (job : Job) → checked bs ≡ given job → Accepted bs job
unfolding checked checks
accepted bs job e =
    let r = reached (first_failing checks bs) (λ (u : Unit {0}). given (job_of (after_version bs))) job e in
    let is : job_of (after_version bs) ≡ job = cc r.2 in
    let check : (n : ℕ) → T (passes_under n checks bs) = λ n. passed-under n checks bs r.1 in
    record {
      is = is;
      size = check 1;
      version = check 2;
      shape = check 3;
      values = subst (λ (j : Job). T (values_ok j)) is (check 4);
      text = subst (λ (j : Job). T (all text_ok j.chunks)) is (check 5);
      spans = subst (λ (j : Job). T (all spans_ok j.chunks)) is (check 6);
    }

-- ---- every float of a job is in range

-- representable, and zero or of a size from 2 ^ -20 to 2 ^ 20
abbrev pub InRange : Float → Type 0
InRange x = T (fits binary32 x) × T (float_ok x)

pub record RangedSpan (s : Span) : Type 0 where
  pub size : T (fits binary32 s.size) × T (size_ok s.size)
  pub letter : InRange s.letter
  pub word : InRange s.word
  pub length : InRange s.length

pub record RangedParts (p : SpanParts) : Type 0 where
  pub span : RangedSpan p.span
  pub shifts : All (λ s. InRange s.number) p.shifts

pub record RangedChunk (c : Chunk) : Type 0 where
  pub x : InRange c.x
  pub y : InRange c.y
  pub parts : All RangedParts c.parts

pub record RangedJob (j : Job) : Type 0 where
  pub dx : All InRange j.dx
  pub dy : All InRange j.dy
  pub rotate : All InRange j.rotate
  pub chunks : All RangedChunk j.chunks

-- what is read fits
float_fits : (bs : List ℕ) → T (fits binary32 (float bs))
unfolding float
float_fits bs = of_bits-fits binary32 _

-- a float that is there by a flag
zero_bits : (x : Float) → T (fits binary32 x) → T (is_zero_bits x) → of_bits binary32 0 ≡ x
unfolding is_zero_bits
zero_bits x f h = ap (of_bits binary32) (sym (eqb→eq _ _ h)) ∙ of_bits-to_bits binary32 x f

zero_ok : T (float_ok (of_bits binary32 0))
unfolding float_ok eq of_bits
zero_ok = tt

flagged : (here : Bool) (x : Float) → T (fits binary32 x) → T (flagged_ok here x) → InRange x
unfolding flagged_ok
flagged true x f h = (f, h)
flagged false x f h = (f, subst (λ (y : Float). T (float_ok y)) (zero_bits x f h) zero_ok)

-- what every reader gives, whatever the bytes: floats that fit
record FitSpan (s : Span) : Type 0 where
  size : T (fits binary32 s.size)
  letter : T (fits binary32 s.letter)
  word : T (fits binary32 s.word)
  length : T (fits binary32 s.length)

record FitParts (p : SpanParts) : Type 0 where
  span : FitSpan p.span
  shifts : All (λ s. T (fits binary32 s.number)) p.shifts

record FitChunk (c : Chunk) : Type 0 where
  x : T (fits binary32 c.x)
  y : T (fits binary32 c.y)
  parts : All FitParts c.parts

span_fits : (bs : List ℕ) → FitSpan (span_of bs)
unfolding span_of
span_fits bs = record { size = float_fits _; letter = float_fits _; word = float_fits _; length = float_fits _ }

shift_fits : (bs : List ℕ) → T (fits binary32 (shift_of bs).number)
unfolding shift_of
shift_fits bs = float_fits _

parts-fit : (bs : List ℕ) → FitParts (parts_of bs)
unfolding parts_of
parts-fit bs = record { span = span_fits bs; shifts = all-rows (λ s. T (fits binary32 s.number)) _ shift_of shift_fits _ _ }

chunk-fits : (bs : List ℕ) → FitChunk (chunk_of bs)
unfolding chunk_of
chunk-fits bs = record { x = float_fits _; y = float_fits _; parts = all-rows FitParts _ parts_of parts-fit _ _ }

list-fits : (bs : List ℕ) → All (λ x. T (fits binary32 x)) (list_of bs)
unfolding list_of
list-fits bs = all-rows (λ x. T (fits binary32 x)) _ float float_fits _ _

-- with check 4
span-ranged : (fonts : ℕ) (s : Span) → FitSpan s → T (span_ok fonts s) → RangedSpan s
unfolding span_ok
span-ranged fonts s f t =
    let from-size = rest (all-every _ t) in
    let from-word = rest (rest from-size) in
    record {
      size = (f.size, first from-size);
      letter = (f.letter, first (rest from-size));
      word = (f.word, first from-word);
      length = flagged (has_length s) s.length f.length (first (rest (rest from-word)));
    }

shift-ranged : (s : Shift) → T (fits binary32 s.number) → T (shift_ok s) → InRange s.number
unfolding shift_ok
shift-ranged s f t = flagged _ s.number f (first (rest (all-every _ t)))

parts-ranged : (fonts : ℕ) (p : SpanParts) → FitParts p → T (parts_ok fonts p) → RangedParts p
unfolding parts_ok
parts-ranged fonts p f t =
    let conditions = all-every _ t in
    record {
      span = span-ranged fonts p.span f.span (first conditions);
      shifts = both shift-ranged f.shifts (all_of shift_ok p.shifts (first (rest (rest conditions))));
    }

chunk-ranged : (fonts : ℕ) (c : Chunk) → FitChunk c → T (chunk_ok fonts c) → RangedChunk c
unfolding chunk_ok
chunk-ranged fonts c f t =
    let from-x = rest (all-every _ t) in
    record {
      x = flagged (has_x c) c.x f.x (first from-x);
      y = flagged (has_y c) c.y f.y (first (rest from-x));
      parts = both (parts-ranged fonts) f.parts (all_of (parts_ok fonts) c.parts (first (rest (rest (rest (rest from-x))))));
    }

list-ranged : (bs : List ℕ) → T (all float_ok (list_of bs)) → All InRange (list_of bs)
list-ranged bs t = both (λ x f h. (f, h)) (list-fits bs) (all_of float_ok (list_of bs) t)

ranged : (bs : List ℕ) → T (values_ok (job_of bs)) → RangedJob (job_of bs)
unfolding values_ok job_of
ranged bs t =
    let from-dx = rest (rest (all-every _ t)) in
    let chunks = (job_of bs).chunks in
    record {
      dx = list-ranged _ (first from-dx);
      dy = list-ranged _ (first (rest from-dx));
      rotate = list-ranged _ (first (rest (rest from-dx)));
      chunks = both (chunk-ranged _) (all-rows FitChunk _ chunk_of chunk-fits _ _) (all_of _ chunks (first (rest (rest (rest from-dx)))));
    }

pub floats-in-range : (bs : List ℕ) (job : Job) → checked bs ≡ given job → RangedJob job
floats-in-range bs job e =
    let a = accepted bs job e in
    subst RangedJob a.is (ranged (after_version bs) (subst (λ (j : Job). T (values_ok j)) (sym a.is) a.values))
