-- A span row from its parts; the rows of a list of spans, span by span. Assumes nothing.
use Prim.Native.Nat.{ℕ, suc, ◌+◌, ◌*◌, ◌≤◌, ◌<◌}
use mathlib.Core.Path.{◌≡◌, refl, ap, ◌∙◌}
use mathlib.Core.Bool.{Bool, true, false, not, cond}
use mathlib.Core.List.{List, [], ◌∷◌, ◌++◌, map, flat_map, append-nil, append_assoc}
use native.Mathlib.Omega.{arith}
use lib.Ieee.{Float}
use native.Mathlib.Numerals.{add-one}
use lib.Dec.{eqb}
use lib.ListN.{length, get_or, drop, length-append, length-map, drop_of_length-le}
use lib.Seq.{drop-cons}
use borrow.Author.Tests.{not-true, not-false}
use Rattle.std.specs.List.{sum_by, count_by}
use Rattle.std.proofs.lemmas.List.Sums.{sum_by-cons}
use Rattle.spec.specs.declared.Run.{Run}
use Rattle.spec.specs.declared.Span.{Span}
use Rattle.spec.specs.declared.Point.{Point}
use Rattle.spec.specs.declared.Cluster.{Cluster}
use Rattle.spec.specs.Job.{Job, SpanParts, no_font}
use Rattle.spec.specs.Decode.{span_of, parts_of}
use Rattle.spec.specs.Decoration.{collect_decoration_spans}
use Rattle.spec.specs.Layout.{span_row, span_rows}
use Rattle.spec.specs.Answer.{SpanRow, run_bytes, span_row_size, span_row_bytes, span_row_length, sum}
use Rattle.spec_laws.proofs.Numbers.{length-bytes}
use Rattle.spec_laws.proofs.AnswerLength.{length-flat_map, length-floats, length-span_row}
use Rattle.wire.specs.Splice.{splice}
use Rattle.job_rows.specs.Rows.{parts_in}
use Rattle.job_rows.proofs.ByNumber.{map-in}
use Rattle.decoration.proofs.Runs.{flat_map-append, length_runs, runs-few}
use Rattle.answer_rows.specs.Spans.{row_floats, span_head_bytes, has_row, span_size}
use Rattle.answer_rows.proofs.Puts.{splice-before, Putting, put-start, put-room, put-turn, put-done}

-- ---- a row: what comes before its runs, and the runs

row-bytes : (row : SpanRow) → span_head_bytes row.index (row_floats row) (length row.runs) ++ flat_map run_bytes row.runs ≡ span_row_bytes row
unfolding span_row_bytes
row-bytes row = simp append_assoc

-- the runs are put, and then what comes before them
pub row_put : (out : List ℕ) (at : ℕ) (row : SpanRow) {out₁ out₂ : List ℕ} {values : List Float} {runs : List Run} {n : ℕ}
    → values ≡ row_floats row → runs ≡ row.runs → n ≡ length runs
    → out₁ ≡ splice out (at + span_row_size 0) (flat_map run_bytes runs) → out₂ ≡ splice out₁ at (span_head_bytes row.index values n)
    → at + span_row_length row ≤ length out → out₂ ≡ splice out at (span_row_bytes row)
row_put out at row ev er en e₁ e₂ room =
    let head = span_head_bytes row.index (row_floats row) (length row.runs) in
    let rest = flat_map run_bytes row.runs in
    let l : length head ≡ 31 = simp (length-append, length-bytes, length-floats) in
    let m : length rest ≡ 6 * length row.runs = length_runs row.runs in
    rw (ev, en, er) at e₂ ∙ ap (λ (o : List ℕ). splice o at head) (rw er at e₁) ∙ splice-before out at head _ rest (omega arith) (omega arith) ∙ ap (splice out at) (row-bytes row)

-- the row's runs are those of the span that was read
module _ (j : Job) (origin : Point) (cs : List Cluster) (k : ℕ) (s : List ℕ) (place : ℕ) {span : Span} (e : span ≡ span_of (drop place s)) where
  pub row-runs : collect_decoration_spans span cs ≡ (span_row j origin cs k (parts_of (drop place s))).runs
  unfolding span_row parts_of
  row-runs = ap (λ (sp : Span). collect_decoration_spans sp cs) e

  pub run_count : length (collect_decoration_spans span cs) ≡ length (span_row j origin cs k (parts_of (drop place s))).runs
  run_count = ap length row-runs

-- ---- rows one after the other

pub length-rows : (rows : List SpanRow) → length (flat_map span_row_bytes rows) ≡ sum (map span_row_length rows)
length-rows = length-flat_map span_row_bytes span_row_length length-span_row

-- ---- the rows of spans

module _ (j : Job) (origin : Point) (cs : List Cluster) where
  one-row : (k : ℕ) (p : SpanParts) → has_row p ≡ true → span_rows j origin cs k (p ∷ []) ≡ span_row j origin cs k p ∷ []
  unfolding span_rows
  one-row k p h = rw (not-true (eqb p.span.font no_font) h)

  no_row : (k : ℕ) (p : SpanParts) → has_row p ≡ false → span_rows j origin cs k (p ∷ []) ≡ []
  unfolding span_rows
  no_row k p h = rw (not-false (eqb p.span.font no_font) h)

  pub one_bytes : (k : ℕ) (p : SpanParts) → has_row p ≡ true → flat_map span_row_bytes (span_rows j origin cs k (p ∷ [])) ≡ span_row_bytes (span_row j origin cs k p)
  unfolding flat_map
  one_bytes k p h = rw (one-row k p h) (append-nil (span_row_bytes (span_row j origin cs k p)))

  pub one_sum : (k : ℕ) (p : SpanParts) → has_row p ≡ true → sum (map span_row_length (span_rows j origin cs k (p ∷ []))) ≡ span_row_length (span_row j origin cs k p)
  one_sum k p h = rw (one-row k p h) (omega arith)

  pub no_bytes : (k : ℕ) (p : SpanParts) → has_row p ≡ false → flat_map span_row_bytes (span_rows j origin cs k (p ∷ [])) ≡ []
  unfolding flat_map
  no_bytes k p h = rw (no_row k p h)

  pub no_sum : (k : ℕ) (p : SpanParts) → has_row p ≡ false → sum (map span_row_length (span_rows j origin cs k (p ∷ []))) ≡ 0
  no_sum k p h = rw (no_row k p h)

  -- those of the first span, and those of the others
  rows_split : (k : ℕ) (p : SpanParts) (ps : List SpanParts) → span_rows j origin cs k (p ∷ ps) ≡ span_rows j origin cs k (p ∷ []) ++ span_rows j origin cs (k + 1) ps
  unfolding span_rows
  rows_split k p ps = go (eqb p.span.font no_font)
    where
      go : (b : Bool) → cond b (span_rows j origin cs (k + 1) ps) (span_row j origin cs k p ∷ span_rows j origin cs (k + 1) ps)
          ≡ cond b [] (span_row j origin cs k p ∷ []) ++ span_rows j origin cs (k + 1) ps
      go true = refl
      go false = refl

  -- a walk over the spans stands at place i
  module _ (s places : List ℕ) where
    abbrev pub rows_from : ℕ → List SpanRow
    rows_from i = span_rows j origin cs i (drop i (parts_in s places))

    abbrev pub rows_at : ℕ → List SpanRow
    rows_at i = span_rows j origin cs i (parts_of (drop (get_or places i 0) s) ∷ [])

    abbrev read : ℕ → SpanParts
    read at = parts_of (drop at s)

    rows-turn : (i : ℕ) → i < length places → rows_from i ≡ rows_at i ++ rows_from (i + 1)
    unfolding parts_in
    rows-turn i h =
        let l : i < length (map read places) = rw (length-map places read) h in
        rw (drop-cons (map read places) i (read 0) l, map-in read places i 0 (read 0) h, add-one i)
        (rw (add-one i) at (rows_split i (read (get_or places i 0)) (drop (suc i) (map read places))))

    rows-done : (i : ℕ) → length places ≤ i → rows_from i ≡ []
    unfolding parts_in span_rows
    rows-done i h = rw (drop_of_length-le (map read places) {i = i} (rw (length-map places read) h))

    pub bytes-turn : (i : ℕ) → i < length places → flat_map span_row_bytes (rows_from i) ≡ flat_map span_row_bytes (rows_at i) ++ flat_map span_row_bytes (rows_from (i + 1))
    bytes-turn i h = ap (flat_map span_row_bytes) (rows-turn i h) ∙ flat_map-append span_row_bytes (rows_at i) (rows_from (i + 1))

    pub bytes-done : (i : ℕ) → length places ≤ i → flat_map span_row_bytes (rows_from i) ≡ []
    unfolding flat_map
    bytes-done i h = rw (rows-done i h)

-- ---- how many rows the spans at some places have, and how many bytes, as they are counted and added up

module _ (j : Job) (origin : Point) (cs : List Cluster) (s : List ℕ) where
  abbrev read_at : ℕ → SpanParts
  read_at at = parts_of (drop at s)

  pub rows_counted : (k : ℕ) (places : List ℕ) → length (span_rows j origin cs k (parts_in s places)) ≡ count_by (λ at. has_row (parts_of (drop at s))) places
  unfolding parts_in span_rows
  rows_counted k [] = refl
  rows_counted k (at ∷ places) =
      rw sum_by-cons (go (eqb (read_at at).span.font no_font) _ _ (rows_counted (k + 1) places))
    where
      go : (b : Bool) (rest : List SpanRow) (row : SpanRow) {n : ℕ} → length rest ≡ n → length (cond b rest (row ∷ rest)) ≡ cond (not b) 1 0 + n
      go true rest row e = omega arith
      go false rest row e = omega arith

  pub rows_sized : (k : ℕ) (places : List ℕ) → sum (map span_row_length (span_rows j origin cs k (parts_in s places))) ≡ sum_by (λ at. span_size cs (parts_of (drop at s))) places
  unfolding parts_in span_rows span_row span_size
  rows_sized k [] = refl
  rows_sized k (at ∷ places) =
      rw sum_by-cons (go (eqb (read_at at).span.font no_font) _ _ (rows_sized (k + 1) places))
    where
      go : (b : Bool) (rest : List SpanRow) (row : SpanRow) {n : ℕ} → sum (map span_row_length rest) ≡ n → sum (map span_row_length (cond b rest (row ∷ rest))) ≡ cond (not b) (span_row_length row) 0 + n
      go true rest row e = omega arith
      go false rest row e = omega arith

size-few : (cs : List Cluster) (p : SpanParts) → span_size cs p ≤ span_row_size (length cs)
unfolding span_size
size-few cs p = go (has_row p)
  where
    go : (b : Bool) → cond b (span_row_size (length (collect_decoration_spans p.span cs))) 0 ≤ span_row_size (length cs)
    go true = omega (arith, runs-few p.span cs)
    go false = omega arith

pub rows_few : (cs : List Cluster) (s places : List ℕ) → sum_by (λ at. span_size cs (parts_of (drop at s))) places ≤ length places * span_row_size (length cs)
rows_few cs s [] = omega arith
rows_few cs s (at ∷ places) = rw sum_by-cons (omega (arith, size-few cs (parts_of (drop at s)), rows_few cs s places))

-- ---- the rows of the spans from place i on are still to be put

module _ (j : Job) (origin : Point) (cs : List Cluster) (s places : List ℕ) where
  abbrev all_rows : List SpanRow
  all_rows = span_rows j origin cs 0 (parts_in s places)

  abbrev pub SpansLeft : List ℕ → ℕ → List ℕ → ℕ → ℕ → Type 0
  SpansLeft old at out here i = Putting old at (flat_map span_row_bytes all_rows) out here (flat_map span_row_bytes (rows_from j origin cs s places i))

  pub spans-start : {old : List ℕ} {at : ℕ} → at + sum (map span_row_length all_rows) ≤ length old → SpansLeft old at old at 0
  spans-start h = put-start (omega (arith, length-rows all_rows))

  module _ {old : List ℕ} {at : ℕ} {out : List ℕ} {here : ℕ} (i : ℕ) (left : SpansLeft old at out here i) where
    module _ (place : ℕ) (e : place ≡ get_or places i 0) (h : i < length places) where
      abbrev rows_here : List SpanRow
      rows_here = span_rows j origin cs i (parts_of (drop place s) ∷ [])

      next : flat_map span_row_bytes (rows_from j origin cs s places i) ≡ flat_map span_row_bytes rows_here ++ flat_map span_row_bytes (rows_from j origin cs s places (i + 1))
      next = rw e (bytes-turn j origin cs s places i h)

      pub spans-room : here + sum (map span_row_length rows_here) ≤ length out
      spans-room = omega (arith, length-rows rows_here, put-room left (flat_map span_row_bytes rows_here) (flat_map span_row_bytes (rows_from j origin cs s places (i + 1))) next)

      pub spans-turn : {out' : List ℕ} {here' : ℕ} → (here' ≡ here + sum (map span_row_length rows_here)) × (out' ≡ splice out here (flat_map span_row_bytes rows_here)) → SpansLeft old at out' here' (i + 1)
      spans-turn put = put-turn left (flat_map span_row_bytes rows_here) (flat_map span_row_bytes (rows_from j origin cs s places (i + 1))) next put.1 (omega (arith, put.0, length-rows rows_here))

    pub spans-done : length places ≤ i → (here ≡ at + sum (map span_row_length all_rows)) × (out ≡ splice old at (flat_map span_row_bytes all_rows))
    spans-done h =
        let all = put-done left (bytes-done j origin cs s places i h) in
        (omega (arith, all.1, length-rows all_rows), all.0)
