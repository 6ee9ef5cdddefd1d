-- The tests of a job's parts, as the code goes through them: walks over rows, spans and chunks. Assumes nothing.
use Prim.Native.Nat.{ℕ, ◌+◌, ◌-◌, ◌/◌, ◌%◌}
use mathlib.Core.Path.{◌≡◌, refl, sym}
use mathlib.Core.Bool.{Bool, true, false, not, ◌&&◌, ◌||◌, and_assoc, and-true}
use mathlib.Core.List.{List}
use native.Mathlib.Omega.{arith}
use borrow.Author.Tests.{ltb-true, ltb-false, eqb-true, eqb-false, eq-eqb, ne_eqb}
use lib.ListN.{length, take, drop, length-drop}
use lib.Dec.{eqb, leb, ltb}
use Rattle.spec.specs.Lists.{all, every}
use Rattle.spec.specs.Bytes.{be, float, sizes, all_records}
use Rattle.spec.specs.Decode.{font_bytes, glyph_bytes, shift_bytes, float_size, font_of, glyph_of, shift_of, span_of, shift_count, glyph_count_at, glyph_count, span_size, parts_of, text_size, span_count_at, span_fits, chunk_fits, span_count, span_bytes, chunk_size, chunk_of, list_of, list_fits, font_count, dx_at, dy_at, rotate_at, chunk_count_at, shaped, chunk_count, chunk_bytes, job_of}
use Rattle.spec.specs.declared.Job.{Job}
use Rattle.spec.specs.Job.{Chunk}
use Rattle.spec.specs.Utf8.{is_utf8}
use Rattle.spec.specs.Check.{after_version, float_ok, flagged_ok, font_ok, glyph_ok, shift_ok, span_ok, parts_ok, chunk_ok, values_ok, text_ok}
use Rattle.spec_laws.proofs.Records.{length-rows}
use Rattle.job_checks.specs.Walk.{index_ok, counts_fit, lists_ok}
use Rattle.job_checks.specs.Verdict.{places_of}
use Rattle.job_checks.specs.Checks.{Found}
use Rattle.job_checks.proofs.Places.{behind-version}
use Rattle.job_rows.specs.Head.{head_of}
use Rattle.job_rows.proofs.Walks.{all-each, rows_empty}

pub list-test : (bs : List ℕ) → all float_ok (list_of bs) ≡ all_records (λ b. float_size) (λ b. float_ok (float b)) (be 2 bs) (drop 2 bs)
unfolding list_of
list-test bs = all-each (λ b. float_size) float float_ok (be 2 bs) (drop 2 bs)

pub parts-test : (fonts : ℕ) (bs : List ℕ) → parts_ok fonts (parts_of bs)
    ≡ (span_ok fonts (span_of bs)
    && (not (eqb (span_of bs).font 255) || eqb (glyph_count bs) 0)
    && all_records (λ b. shift_bytes) (λ b. shift_ok (shift_of b)) (shift_count bs) (drop 27 bs)
    && all_records (λ b. glyph_bytes) (λ b. glyph_ok fonts (glyph_of b)) (glyph_count bs) (drop (glyph_count_at bs + 2) bs))
unfolding parts_ok parts_of every
parts-test fonts bs =
    rw (
      rows_empty (λ b. glyph_bytes) glyph_of (glyph_count bs) (drop (glyph_count_at bs + 2) bs),
      all-each (λ b. shift_bytes) shift_of shift_ok (shift_count bs) (drop 27 bs),
      all-each (λ b. glyph_bytes) glyph_of (glyph_ok fonts) (glyph_count bs) (drop (glyph_count_at bs + 2) bs),
    )
    (simp (and_assoc, and-true))

pub chunk-test : (fonts : ℕ) (bs : List ℕ) → chunk_ok fonts (chunk_of bs)
    ≡ (leb (head_of bs).flags 3
    && flagged_ok (eqb ((head_of bs).flags % 2) 1) (head_of bs).x
    && flagged_ok (eqb ((head_of bs).flags / 2 % 2) 1) (head_of bs).y
    && leb (head_of bs).anchor 2
    && eqb (head_of bs).flow 0
    && all_records span_size (λ b. parts_ok fonts (parts_of b)) (head_of bs).spans (span_bytes bs))
unfolding chunk_ok chunk_of every head_of
chunk-test fonts bs = rw (all-each span_size parts_of (parts_ok fonts) (span_count bs) (span_bytes bs)) (simp (and_assoc, and-true))

pub fit-test : (bs : List ℕ) → chunk_fits bs
    ≡ (leb (text_size bs) 4096
    && leb (span_count bs) 32
    && leb (span_count_at bs + 1) (length bs)
    && all_records span_size span_fits (span_count bs) (span_bytes bs))
unfolding chunk_fits every
fit-test bs = simp (and_assoc, and-true)

pub text-test : (bs : List ℕ) → text_ok (chunk_of bs) ≡ (is_utf8 (chunk_of bs).text && all_records span_size (λ b. all (index_ok (chunk_of bs).text) (parts_of b).glyphs) (span_count bs) (span_bytes bs))
unfolding text_ok chunk_of
text-test bs = rw (all-each span_size parts_of (λ p. all (index_ok (take (text_size bs) (drop 13 bs))) p.glyphs) (span_count bs) (span_bytes bs))

-- ---- the end of the chunks: `size` bytes behind the chunk count at `at`, in the bytes after the version

ends-numbers : (at size n : ℕ) → eqb (at + 1 + size) (n - 5) ≡ (ltb (5 + at) n && eqb size (n - 5 - (at + 1)))
ends-numbers at size n = go (ltb (5 + at) n) refl (eqb size (n - 5 - (at + 1))) refl
  where
    go : (here : Bool) → ltb (5 + at) n ≡ here → (fills : Bool) → eqb size (n - 5 - (at + 1)) ≡ fills → eqb (at + 1 + size) (n - 5) ≡ (here && fills)
    go false h fills e = ne_eqb (at + 1 + size) (n - 5) (λ same. omega (arith, ltb-false (5 + at) n h))
    go true h true e = eq-eqb (at + 1 + size) (n - 5) (omega (arith, ltb-true (5 + at) n h, eqb-true size (n - 5 - (at + 1)) e))
    go true h false e = ne_eqb (at + 1 + size) (n - 5) (λ same. eqb-false size (n - 5 - (at + 1)) e (omega (arith, ltb-true (5 + at) n h)))

ends-test : (s : List ℕ) (at size : ℕ) → eqb (at + 1 + size) (length (after_version s)) ≡ (ltb (5 + at) (length s) && eqb size (length (drop (at + 1) (after_version s))))
ends-test s at size = rw (length-drop (at + 1) (after_version s), length-drop 5 s) (ends-numbers at size (length s))

-- ---- a record s, by the places of its job

module _ (s : List ℕ) where
  abbrev rest : List ℕ
  rest = after_version s

  pub counts-test : counts_fit rest
      ≡ (leb (places_of s).fonts 16 && list_fits (drop (places_of s).dx s) && list_fits (drop (places_of s).dy s) && list_fits (drop (places_of s).rotate s) && leb (chunk_count rest) 16)
  unfolding counts_fit every places_of
  counts-test = rw (behind-version s (dx_at rest), behind-version s (dy_at rest), behind-version s (rotate_at rest)) (simp (and_assoc, and-true))

  pub shape-test : shaped rest
      ≡ (counts_fit rest
      && all_records chunk_size chunk_fits (chunk_count rest) (chunk_bytes rest)
      && (ltb (places_of s).chunks (length s) && eqb (sizes chunk_size (chunk_count rest) (chunk_bytes rest)) (length (chunk_bytes rest))))
  unfolding shaped counts_fit every places_of chunk_bytes
  shape-test = rw (ends-test s (chunk_count_at rest) (sizes chunk_size (chunk_count rest) (chunk_bytes rest))) (simp (and_assoc, and-true))

  pub lists-test : lists_ok (job_of rest) ≡ (all float_ok (list_of (drop (places_of s).dx s)) && all float_ok (list_of (drop (places_of s).dy s)) && all float_ok (list_of (drop (places_of s).rotate s)))
  unfolding job_of places_of
  lists-test = rw (behind-version s (dx_at rest), behind-version s (dy_at rest), behind-version s (rotate_at rest))

  pub values-test : values_ok (job_of rest)
      ≡ (leb (places_of s).mode 1
      && all_records (λ b. font_bytes) (λ b. font_ok (font_of b)) (places_of s).fonts (drop 7 s)
      && lists_ok (job_of rest)
      && all_records chunk_size (λ b. chunk_ok (places_of s).fonts (chunk_of b)) (chunk_count rest) (chunk_bytes rest))
  unfolding values_ok job_of every places_of
  values-test =
      rw (
        length-rows (λ b. font_bytes) font_of (font_count rest) (drop 2 rest),
        all-each (λ b. font_bytes) font_of font_ok (font_count rest) (drop 2 rest),
        all-each chunk_size chunk_of (chunk_ok (font_count rest)) (chunk_count rest) (chunk_bytes rest),
        behind-version s 2,
      )
      (simp (and_assoc, and-true))

  -- the chunks that are found
  pub chunks-test : (passes : Chunk → Bool) {job : Job} {behind : List ℕ} {n : ℕ} → Found s job behind n → all_records chunk_size (λ b. passes (chunk_of b)) n behind ≡ all passes (job_of rest).chunks
  unfolding job_of
  chunks-test passes found = rw (found.chunks, found.count) (sym (all-each chunk_size chunk_of passes (chunk_count rest) (chunk_bytes rest)))
