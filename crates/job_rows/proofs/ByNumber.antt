-- Rows by their numbers, and the places of the spans. Assumes nothing.
use Prim.Native.Nat.{ℕ, zero, suc, ◌+◌, ◌-◌, ◌*◌, ◌≤◌, ◌<◌, min}
use mathlib.Core.Path.{◌≡◌, refl, sym, ap, ◌∙◌}
use mathlib.Core.List.{List, ◌∷◌, ◌++◌, map, append-nil}
use native.Mathlib.Nat.{min-le_right}
use native.Mathlib.Numerals.{add-one}
use native.Mathlib.Omega.{arith}
use lib.ListN.{length, get_or, set, take, drop, length-set, length-map, get_or-eq_default}
use lib.Seq.{drop-drop, take-suc-set, take_all, append_snoc}
use Rattle.std.proofs.lemmas.List.{get_or-map}
use Rattle.spec.specs.Bytes.{rows, sizes}
use Rattle.spec.specs.Job.{blank_font, font_at}
use Rattle.spec.specs.Decode.{font_bytes, font_of, span_size, parts_of}
use Rattle.spec.specs.Lists.{All}
use Rattle.spec_laws.proofs.Records.{length-rows, rows_at}
use Rattle.wire.proofs.Places.{after-drops}
use Rattle.job_rows.specs.Rows.{fonts_in, parts_in, span_places}

-- ---- rows of one size

sizes-same : (k n : ℕ) (bs : List ℕ) → sizes (λ r. k) n bs ≡ n * k
unfolding sizes
sizes-same k zero bs = omega arith
sizes-same k (suc n) bs = rw (sizes-same k n (drop k bs)) (omega arith)

-- row i of n rows that begin at a place of the record
module _ {A : Type 0} (k : ℕ) (read : List ℕ → A) (n : ℕ) (bs : List ℕ) (at i : ℕ) (d : A) where
  pub row_in : i < n → read (drop (at + i * k) bs) ≡ get_or (rows (λ r. k) read n (drop at bs)) i d
  row_in h =
      sym (rows_at (λ r. k) read n (drop at bs) i d h ∙ ap (λ (m : ℕ). read (drop m (drop at bs))) (sizes-same k i (drop at bs)) ∙ ap read (drop-drop (i * k) at bs))

  pub row-past : n ≤ i → d ≡ get_or (rows (λ r. k) read n (drop at bs)) i d
  row-past h = sym (get_or-eq_default (rows (λ r. k) read n (drop at bs)) d (rw (length-rows (λ r. k) read n (drop at bs)) h))

-- the font of byte b
module _ (s : List ℕ) (fonts b : ℕ) where
  pub font-here : b < fonts → font_of (drop (7 + b * font_bytes) s) ≡ font_at (fonts_in s fonts) b
  unfolding fonts_in
  font-here h = row_in font_bytes font_of fonts s 7 b blank_font h

  pub font-past : fonts ≤ b → blank_font ≡ font_at (fonts_in s fonts) b
  unfolding fonts_in
  font-past h = row-past font_bytes font_of fonts s 7 b blank_font h

-- ---- a list that is mapped

module _ {A B : Type 0} (f : A → B) where
  pub map-in : (l : List A) (i : ℕ) (a : A) (b : B) → i < length l → get_or (map f l) i b ≡ f (get_or l i a)
  map-in l i a b h = get_or-map f l i a b h

  pub map-past : (l : List A) (i : ℕ) (b : B) → length l ≤ i → get_or (map f l) i b ≡ b
  map-past l i b h = get_or-eq_default (map f l) b (simp length-map h)

-- ---- the places of the spans
module _ (s : List ℕ) where
  pub length-places : (at n : ℕ) → length (span_places s at n) ≡ n
  unfolding span_places
  length-places at zero = refl
  length-places at (suc n) = ap suc (length-places (min (at + span_size (drop at s)) (length s)) n)

  -- the spans there are those that are read one after the other
  pub parts-places : (at n : ℕ) → parts_in s (span_places s at n) ≡ rows span_size parts_of n (drop at s)
  unfolding span_places parts_in rows
  parts-places at zero = refl
  parts-places at (suc n) =
      ap (λ ps. parts_of (drop at s) ∷ ps) (parts-places (min (at + span_size (drop at s)) (length s)) n ∙ ap (rows span_size parts_of n) (after-drops at _ s refl))

  -- and none is past the end of the record
  pub places-within : (at n : ℕ) → at ≤ length s → All (λ p. p ≤ length s) (span_places s at n)
  unfolding span_places
  places-within at zero h = All.none
  places-within at (suc n) h = All.more h (places-within (min (at + span_size (drop at s)) (length s)) n (min-le_right _ _))

  -- i of them are put, and the next stands at p
  abbrev pub placed : List ℕ → ℕ → ℕ → List ℕ
  placed l i p = take i l ++ span_places s p (length l - i)

  pub placed-turn : (l : List ℕ) (i p : ℕ) {q k : ℕ} {row : List ℕ} → i < length l → row ≡ drop p s → k ≡ span_size row → q ≡ min (p + k) (length s)
      → placed (set l i p) (i + 1) q ≡ placed l i p
  unfolding span_places
  placed-turn l i p h row_is k-is q-is =
      let left : length l - i ≡ suc (length l - (i + 1)) = omega arith in
      rw (length-set, q-is, k-is, row_is, left, add-one i, take-suc-set l i p h) (append_snoc (take i l) p _)

  pub placed_end : (l : List ℕ) (i p : ℕ) → length l ≤ i → placed l i p ≡ l
  unfolding span_places
  placed_end l i p h = let none : length l - i ≡ 0 = omega arith in rw (none, take_all i l h) (append-nil l)
