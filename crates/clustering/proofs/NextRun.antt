-- The runs from place i of a merged list on: the first of them, and those behind it. Assumes nothing.
use Prim.Native.Nat.{ℕ, suc, ◌+◌, ◌-◌, ◌≤◌, ◌<◌}
use mathlib.Core.Path.{◌≡◌, refl, sym, ap, ◌∙◌}
use mathlib.Core.List.{List, [], ◌∷◌}
use native.Mathlib.Omega.{arith}
use native.Mathlib.Numerals.{add-one}
use borrow.Author.Tests.{eq-eqb}
use lib.ListN.{length, take, drop, length-drop}
use lib.Seq.{drop-cons, drop-drop, take_all}
use Rattle.std.proofs.lemmas.List.{drop-map}
use Rattle.spec.specs.declared.Glyph.{Glyph}
use Rattle.spec.specs.Decode.{glyph_of}
use Rattle.spec.specs.Lists.{find_idx}
use Rattle.spec.specs.Group.{glyph_runs}
use Rattle.job_rows.specs.Rows.{glyphs_at}
use Rattle.clustering.specs.Groups.{glyph_in, glyphs_from}
use Rattle.clustering.proofs.FirstRun.{other, run_length, runs-split, run-search, run_some}
use Rattle.clustering.proofs.Glyphs.{merged-next, merged-end, glyph-next, glyphs-part, part_length}

module _ (s merged : List ℕ) (i : ℕ) where
  pub runs-end : length merged ≤ i → glyph_runs (drop i (glyphs_at s merged)) ≡ []
  unfolding glyph_runs
  runs-end h = rw (merged-end s merged i h)

  -- the first ends at `end`
  module _ (end : ℕ) (ends : (end ≡ i + run_length (drop i (glyphs_at s merged))) × (i < end) × (end ≤ length merged)) where
    abbrev run : List Glyph
    run = glyphs_from s merged i end

    pub run-glyphs : run ≡ glyph_in s merged i ∷ glyphs_from s merged (i + 1) end
    run-glyphs = glyph-next s merged end i ends.1 ends.2

    pub runs-next : glyph_runs (drop i (glyphs_at s merged)) ≡ run ∷ glyph_runs (drop end (glyphs_at s merged))
    runs-next =
        let gs = glyphs_at s merged in
        let m = run_length (drop i gs) in
        runs-split m (merged-next s merged i (omega arith)) refl
        ∙ (rw (glyphs-part s merged end i m ends.0, drop-drop m i gs, ← ends.0))

    pub run-behind : i + length run ≡ end
    run-behind = rw (part_length s merged end i ends.2) (omega arith)

  -- it is n glyphs long, as many as have the first one's byte index
  pub run-found : (n index : ℕ) → i < length merged → index ≡ (glyph_in s merged i).index
      → (n ≡ find_idx (other index) (glyphs_at s (take (length merged - i) (drop i merged)))) × (n ≤ length (take (length merged - i) (drop i merged)))
      → (i + n ≡ i + run_length (drop i (glyphs_at s merged))) × (i < i + n) × (i + n ≤ length merged)
  unfolding glyphs_at
  run-found n index h e found =
      let first = merged-next s merged i h in
      let rest : take (length merged - i) (drop i merged) ≡ drop i merged = take_all _ _ (omega (arith, length-drop i merged)) in
      let same : n ≡ run_length (drop i (glyphs_at s merged)) = (rw rest at found.0) ∙ (rw (← drop-map (λ (at : ℕ). glyph_of (drop at s)) i merged) (run-search index first e)) in
      (ap (λ (m : ℕ). i + m) same, omega (arith, run_some first), omega (arith, ap length rest, length-drop i merged))

  -- the first of them joins itself
  run-step : (index : ℕ) → i < length merged → index ≡ (glyph_in s merged i).index
      → find_idx (other index) (glyphs_at s (drop i merged)) ≡ suc (find_idx (other index) (glyphs_at s (drop (i + 1) merged)))
  unfolding glyphs_at find_idx
  run-step index h e = rw (add-one, drop-cons merged i 0 h, eq-eqb _ _ (sym e)) refl

  -- so it is one glyph and as many of the next as have its byte index
  pub run-on : (n index : ℕ) → i < length merged → index ≡ (glyph_in s merged i).index
      → (n ≡ find_idx (other index) (glyphs_at s (take (length merged - (i + 1)) (drop (i + 1) merged))))
      × (n ≤ length (take (length merged - (i + 1)) (drop (i + 1) merged)))
      → (i + 1 + n ≡ i + run_length (drop i (glyphs_at s merged))) × (i < i + 1 + n) × (i + 1 + n ≤ length merged)
  run-on n index h e found =
      let next : take (length merged - (i + 1)) (drop (i + 1) merged) ≡ drop (i + 1) merged = take_all _ _ (omega (arith, length-drop (i + 1) merged)) in
      let here : take (length merged - i) (drop i merged) ≡ drop i merged = take_all _ _ (omega (arith, length-drop i merged)) in
      let m : n ≡ find_idx (other index) (glyphs_at s (drop (i + 1) merged)) = rw next at found.0 in
      let whole : suc n ≡ find_idx (other index) (glyphs_at s (take (length merged - i) (drop i merged))) = rw here (ap suc m ∙ sym (run-step index h e)) in
      let all = run-found (suc n) index h e (whole, omega (arith, ap length here, length-drop i merged, ap length next, length-drop (i + 1) merged, found.1)) in
      let far : i + 1 + n ≡ i + suc n = omega arith in
      rw far all
