-- The table of first places is no later than the first places: as it is made, after a step, and made anew. Assumes nothing.
use Prim.Native.Nat.{ℕ, zero, suc, ◌+◌, ◌-◌, ◌≤◌, ◌<◌, min}
use mathlib.Core.Path.{◌≡◌, refl, sym, ap}
use mathlib.Core.Bool.{Bool, true, false, cond}
use mathlib.Core.List.{List, [], ◌∷◌}
use native.Mathlib.Omega.{arith}
use lib.Dec.{eqb, ltb}
use lib.ListN.{length, drop, get_or, set, replicate}
use lib.Seq.{get_or-set_other}
use borrow.Author.Tests.{eqb-true, eqb-false, ne_eqb, ltb-true, ltb-false}
use Rattle.spec.specs.Lists.{find_idx}
use Rattle.spec.specs.declared.Glyph.{Glyph}
use Rattle.spec.specs.Decode.{glyph_of}
use Rattle.spec.specs.Merge.{Merging, place_of}
use Rattle.merge.specs.Merged.{glyphs_in}
use Rattle.merge.specs.Buckets.{bucket_of, buckets_from, buckets_of, lowered, Table, table, table_after, renewed, IsFor}
use Rattle.merge.proofs.Shifted.{After}
use Rattle.merge.proofs.Found.{glyphs-next}

-- ---- a table as it is made

-- the glyph before place j is put
pub bucket-put : (s rows : List ℕ) (n j index : ℕ) (buckets : List ℕ) → 0 < j → j ≤ n → n ≤ length rows → index ≡ (glyph_of (drop (get_or rows (j - 1) 0) s)).index
    → set (buckets_from j (drop j (glyphs_in s rows n)) buckets) (bucket_of index) (j - 1) ≡ buckets_from (j - 1) (drop (j - 1) (glyphs_in s rows n)) buckets
unfolding buckets_from
bucket-put s rows n j index buckets some within held index_is =
    let here : j - 1 < n = omega arith in
    let on : j - 1 + 1 ≡ j = omega arith in
    rw (glyphs-next s rows n (j - 1) here held, on, index_is)

filled_at : (k n b : ℕ) → get_or (replicate k n) b 0 ≤ n
filled_at zero n b = omega arith
filled_at (suc k) n zero = omega arith
filled_at (suc k) n (suc b) = filled_at k n b

put-at : (buckets : List ℕ) (b place : ℕ) → get_or (set buckets b place) b 0 ≤ place
put-at [] b place = omega arith
put-at (f ∷ buckets) zero place = omega arith
put-at (f ∷ buckets) (suc b) place = put-at buckets b place

-- no entry is past the place of the first glyph of one of its byte indexes, where the glyphs are those from place p on
buckets-known : (p : ℕ) (gs : List Glyph) (buckets : List ℕ) → ((k : ℕ) → get_or buckets k 0 ≤ p + length gs) → (b : ℕ)
    → get_or (buckets_from p gs buckets) (bucket_of b) 0 ≤ place_of b gs + p
unfolding buckets_from find_idx
buckets-known p [] buckets h b = omega (arith, h (bucket_of b))
buckets-known p (g ∷ gs) buckets h b =
    go (eqb (bucket_of g.index) (bucket_of b)) refl (buckets-known (p + 1) gs buckets (λ k. omega (arith, h k)) b)
  where
    made : List ℕ
    made = buckets_from (p + 1) gs buckets

    go : (t : Bool) → eqb (bucket_of g.index) (bucket_of b) ≡ t → get_or made (bucket_of b) 0 ≤ place_of b gs + (p + 1)
        → get_or (set made (bucket_of g.index) p) (bucket_of b) 0 ≤ place_of b (g ∷ gs) + p
    go true e others = rw (← eqb-true (bucket_of g.index) (bucket_of b) e) (omega (arith, put-at made (bucket_of g.index) p))
    go false e others =
        let other = eqb-false (bucket_of g.index) (bucket_of b) e in
        rw (get_or-set_other made (bucket_of g.index) (bucket_of b) p 0 (λ same. other (sym same)), ne_eqb g.index b (λ same. other (ap bucket_of same)))
        (omega arith)

pub index-known : (size : ℕ) (gs : List Glyph) → IsFor (table (buckets_of size gs) 0) gs
unfolding buckets_of
index-known size gs = buckets-known 0 gs (replicate size (length gs)) (λ k. omega (arith, filled_at size (length gs) k))

-- a table that is made anew, or whose slack is within its limit
renewed-known : (gs : List Glyph) (t : Table) → IsFor t gs → IsFor (renewed gs t) gs × ((renewed gs t).slack ≤ 32)
unfolding renewed
renewed-known gs t known = go (ltb 32 t.slack) refl
  where
    again : Table
    again = table (buckets_of (length t.buckets) gs) 0

    go : (test : Bool) → ltb 32 t.slack ≡ test → IsFor (cond test again t) gs × ((cond test again t).slack ≤ 32)
    go true e = (index-known (length t.buckets) gs, omega arith)
    go false e = (known, ltb-false 32 t.slack e)

-- ---- a table t, and the merge of g into the list of a state m, which left the list gs₁

module _ (m : Merging) (g : Glyph) (gs₁ : List Glyph) (after : After m g gs₁) (t : Table) (known : IsFor t m.list) where
  abbrev gs : List Glyph
  gs = m.list

  lowers : length gs < length gs₁ → IsFor (table (lowered t.buckets g.index m.next) (t.slack + 1)) gs₁
  lowers h b = go (eqb (bucket_of g.index) (bucket_of b)) refl
    where
      entry : ℕ
      entry = bucket_of g.index

      low : ℕ
      low = min (get_or t.buckets entry 0) m.next

      -- b shares the entry of the glyph's byte index, or is it
      shared : entry ≡ bucket_of b → (test : Bool) → eqb g.index b ≡ test → low ≤ place_of b gs₁ + (t.slack + 1)
      shared same true e = rw (← eqb-true g.index b e) (omega (arith, known g.index, after.own h))
      shared same false e = rw same (omega (arith, known b, after.other h b (eqb-false g.index b e)))

      go : (test : Bool) → eqb entry (bucket_of b) ≡ test → get_or (lowered t.buckets g.index m.next) (bucket_of b) 0 ≤ place_of b gs₁ + (t.slack + 1)
      go true e =
          let same = eqb-true entry (bucket_of b) e in
          rw (← same) (omega (arith, put-at t.buckets entry low, shared same (eqb g.index b) refl))
      go false e =
          let other = eqb-false entry (bucket_of b) e in
          rw (get_or-set_other t.buckets entry (bucket_of b) low 0 (λ same. other (sym same)))
          (omega (arith, known b, after.other h b (λ same. other (ap bucket_of same))))

  stays : length gs₁ ≤ length gs → IsFor (table t.buckets (t.slack + (length gs - length gs₁))) gs₁
  stays h b = omega (arith, known b, after.shorter h b)

  after-known : IsFor (table_after (length gs) (length gs₁) g.index m.next t) gs₁
  unfolding table_after
  after-known = go (ltb (length gs) (length gs₁)) refl
    where
      go : (test : Bool) → ltb (length gs) (length gs₁) ≡ test
          → IsFor (cond test (table (lowered t.buckets g.index m.next) (t.slack + 1)) (table t.buckets (t.slack + (length gs - length gs₁)))) gs₁
      go true e = lowers (ltb-true (length gs) (length gs₁) e)
      go false e = stays (ltb-false (length gs) (length gs₁) e)

  -- t₁ is the table after the step, and t₂ after that
  pub next_known : (old count index : ℕ) → length gs ≡ old → length gs₁ ≡ count → index ≡ g.index → (t₁ t₂ : Table) → t₁ ≡ table_after old count index m.next t → t₂ ≡ renewed gs₁ t₁
      → IsFor t₂ gs₁ × (t₂.slack ≤ 32)
  next_known old count index old-is count-is index_is t₁ t₂ e f = rw (f, e, ← old-is, ← count-is, index_is) (renewed-known gs₁ _ after-known)
