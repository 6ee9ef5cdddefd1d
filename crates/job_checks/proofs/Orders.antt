-- Spans in order: one turn and the end of the walk over them. Assumes nothing.
use Prim.Native.Nat.{ℕ, zero, suc, ◌-◌, ◌<◌, ◌≤◌}
use mathlib.Core.Path.{◌≡◌, refl, sym, ap, ◌∙◌}
use mathlib.Core.Bool.{Bool, true, false, ◌&&◌}
use mathlib.Core.List.{List, ◌∷◌, map}
use lib.ListN.{length, drop}
use lib.Dec.{leb}
use Rattle.spec.specs.Bytes.{be, rows}
use Rattle.spec.specs.Job.{SpanParts}
use Rattle.spec.specs.Decode.{span_size, span_of, parts_of, span_count, span_bytes, chunk_of}
use Rattle.spec.specs.Check.{ordered, spans_ok}
use Rattle.job_rows.proofs.Walks.{rows-turn, rows-done}

-- a span from `start` to `end` stands behind `from`, in a text of n bytes
abbrev pub in_order : ℕ → ℕ → ℕ → ℕ → Bool
in_order n from start end = leb from start && leb start end && leb end n

pub ordered-done : (n from left : ℕ) (bs : List ℕ) → left ≤ 0 → ordered n from (rows span_size span_of left bs) ≡ true
unfolding ordered
ordered-done n from left bs h = rw (rows-done span_size span_of left bs h)

-- the walk stands at a span, which the bytes bs begin with
module _ (n from start end left : ℕ) (bs : List ℕ) (start_is : start ≡ be 2 bs) (end_is : end ≡ be 2 (drop 2 bs)) (h : 0 < left) where
  turn : ordered n from (rows span_size span_of left bs) ≡ (in_order n from start end && ordered n end (rows span_size span_of (left - 1) (drop (span_size bs) bs)))
  unfolding ordered span_of
  turn = rw (rows-turn span_size span_of left bs h, start_is, end_is)

  pub ordered-stop : in_order n from start end ≡ false → false ≡ ordered n from (rows span_size span_of left bs)
  ordered-stop fails = rw (turn, fails) refl

  pub ordered-on : in_order n from start end ≡ true → ordered n end (rows span_size span_of (left - 1) (drop (span_size bs) bs)) ≡ ordered n from (rows span_size span_of left bs)
  ordered-on passes = rw (turn, passes) refl

  -- no place is taken behind the last
  pub ordered-last : in_order n from start end ≡ true → left - 1 ≤ 0 → ordered n end (rows span_size span_of (left - 1) bs) ≡ ordered n from (rows span_size span_of left bs)
  ordered-last passes last =
      ordered-done n end (left - 1) bs last
      ∙ sym (ordered-done n end (left - 1) (drop (span_size bs) bs) last)
      ∙ ordered-on passes

-- the spans of a chunk
spans-rows : (n : ℕ) (bs : List ℕ) → map (λ (p : SpanParts). p.span) (rows span_size parts_of n bs) ≡ rows span_size span_of n bs
unfolding rows parts_of
spans-rows zero bs = refl
spans-rows (suc n) bs = ap (λ ss. span_of bs ∷ ss) (spans-rows n (drop (span_size bs) bs))

pub chunk-order : (bs : List ℕ) → spans_ok (chunk_of bs) ≡ ordered (length (chunk_of bs).text) 0 (rows span_size span_of (span_count bs) (span_bytes bs))
unfolding spans_ok chunk_of
chunk-order bs = ap (ordered _ 0) (spans-rows (span_count bs) (span_bytes bs))
