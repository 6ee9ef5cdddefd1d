-- The spans of a checked chunk: they are few, and the places counted from the first are theirs. Assumes nothing.
use Prim.Native.Nat.{ℕ, ◌+◌, ◌≤◌}
use mathlib.Core.Path.{◌≡◌, sym, ap, ◌∙◌}
use mathlib.Core.List.{List, ◌++◌}
use native.Mathlib.Nat.{add_assoc}
use native.Mathlib.Omega.{arith}
use lib.ListN.{length, take, drop, length-append, length-take}
use lib.Seq.{drop-drop, take_at}
use lib.Dec.{leb→le}
use Rattle.spec_laws.proofs.All.{all-every, first, rest}
use Rattle.spec.specs.Job.{limits}
use Rattle.spec.specs.Bytes.{rows}
use Rattle.spec.specs.Decode.{span_size, parts_of, span_count_at, span_count, span_bytes, chunk_fits, chunk_of}
use Rattle.job_rows.specs.Rows.{parts_in, span_places}
use Rattle.job_rows.proofs.ByNumber.{parts-places}
use Rattle.chunk.specs.declared.progress.NextChunk.{NextChunk}
use Rattle.chunk.specs.Checked.{ShapedChunk, SpansFound, CheckedChunk, SpannedChunk}

-- the first n places of a list are lent
pub lent_length : {n : ℕ} (places : List ℕ) → n ≤ length places → n ≡ length (take n places)
lent_length places few = rw length-take (omega arith)

-- and given back, all overwritten
module _ {n : ℕ} (places own : List ℕ) (few : n ≤ length places) (same : length own ≡ length (take n places)) where
  own-length : length own ≡ n
  own-length = same ∙ sym (lent_length places few)

  pub own_back : take n (own ++ drop n places) ≡ own
  own_back = take_at own (drop n places) n own-length

  pub back-held : n ≤ length (own ++ drop n places)
  back-held = rw length-append (let whole = own-length in omega arith)

  pub back-length : n ≡ length (take n (own ++ drop n places))
  back-length = sym (ap length own_back ∙ own-length)

module _ {s : List ℕ} {at : ℕ} (k : ShapedChunk s at) {chunk : List ℕ} (here : chunk ≡ drop at s) where
  pub few-spans : {n : ℕ} → n ≡ span_count chunk → n ≤ limits.spans
  unfolding chunk_fits
  few-spans e = rw (e, here) (leb→le _ _ (first (rest (all-every _ k.fits))))

  -- as many places as there are spans, counted from the first
  pub places_of : (places : List ℕ) {m n held : ℕ} → m ≡ span_count_at chunk → n ≡ span_count chunk → n ≡ held
      → places ≡ span_places s (at + m + 1) held → parts_in s places ≡ (chunk_of (drop at s)).parts
  unfolding chunk_of span_bytes
  places_of places m-is n-is same e =
      let began : drop (at + span_count_at (drop at s) + 1) s ≡ span_bytes (drop at s) =
      ap (λ (i : ℕ). drop i s) (add_assoc at (span_count_at (drop at s)) 1) ∙ sym (drop-drop (span_count_at (drop at s) + 1) at s) in
      rw (e, parts-places, sym same, m-is, n-is, here) (ap (rows span_size parts_of (span_count (drop at s))) began)

-- what check 3 has shown of a chunk, and the spans that are found
pub shape_of : {s : List ℕ} {next : NextChunk} → CheckedChunk s next → ShapedChunk s next.at
shape_of k = record { size = k.size; begins = k.begins; fits = k.fits }

pub spanned-of : {s : List ℕ} {next : NextChunk} → CheckedChunk s next → {places : List ℕ} {n : ℕ} → SpansFound s next.at places n → SpannedChunk s next (take n places)
spanned-of k f = record { checked = k; few = rw length-take (omega (arith, f.few)); parts = f.parts }
