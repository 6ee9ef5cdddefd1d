-- A cluster's row: its glyphs, its parts, how long it is; and rows put one after the other. Assumes nothing.
use Prim.Native.Nat.{ℕ, ◌+◌, ◌-◌, ◌*◌, ◌≤◌, ◌<◌, min}
use mathlib.Core.Path.{◌≡◌, refl, sym, ap, ap₂, ◌∙◌}
use mathlib.Core.Bool.{true}
use mathlib.Core.List.{List, [], ◌∷◌, ◌++◌, map, flat_map, append_assoc}
use native.Mathlib.Omega.{arith}
use lib.ListN.{length, get_or, take, drop, length-append, length-take, length-drop}
use Rattle.spec.specs.declared.Glyph.{Glyph}
use Rattle.spec.specs.declared.Cluster.{Cluster}
use Rattle.spec.specs.Single.{+0}
use Rattle.spec.specs.Answer.{glyph_row_bytes, cluster_row_bytes, cluster_row_length, cluster_row_size, sum}
use Rattle.spec.specs.Layout.{glyph_rows, glyphs_of, cluster_row}
use Rattle.spec_laws.proofs.Numbers.{length-bytes}
use Rattle.spec_laws.proofs.AnswerLength.{length-floats, length-cluster_row, length-flat_map}
use Rattle.job_rows.specs.Rows.{glyphs_at}
use Rattle.spec_laws.proofs.All.{all_take, all_drop, all_true, true-all}
use Rattle.std.specs.List.{sum_by}
use Rattle.std.proofs.lemmas.List.{take-map, drop-map}
use Rattle.std.proofs.lemmas.List.Recursion.{is_sum_by}
use Rattle.answer_rows.specs.Glyphs.{units_in}
use Rattle.answer_rows.specs.Clusters.{cluster_head_bytes, cluster_size, clusters_size}
use Rattle.answer_rows.proofs.GlyphsLeft.{glyphs-count, count-glyph_rows}
use Rattle.answer_rows.proofs.Puts.{RowsLeft, row_room}

-- ---- the glyphs at some of the places are some of the glyphs

module _ (s merged places : List ℕ) (c : Cluster) (e : places ≡ take c.count (drop c.from merged)) where
  abbrev gs : List Glyph
  gs = glyphs_at s merged

  places-glyphs : glyphs_at s places ≡ glyphs_of gs c
  unfolding glyphs_at
  places-glyphs = rw (e, drop-map, take-map)

  places-length : length places ≡ length (glyphs_of gs c)
  places-length = sym (glyphs-count s places) ∙ ap length places-glyphs

  pub places-ok : units_in gs ≡ true → units_in (glyphs_at s places) ≡ true
  places-ok h = rw places-glyphs (all_true _ (all_take c.count (all_drop c.from (true-all _ gs h))))

  -- the row is what stands before the glyphs, and the glyphs
  pub row-parts : (mode : ℕ) → cluster_row_bytes (cluster_row mode gs c) ≡ cluster_head_bytes mode c (length places) ++ flat_map glyph_row_bytes (glyph_rows +0 (glyphs_at s places))
  unfolding cluster_row_bytes cluster_row cluster_head_bytes
  row-parts mode = rw (places-glyphs, places-length, count-glyph_rows +0 (glyphs_of gs c)) (simp append_assoc)

  pub row-of-places : (mode : ℕ) → cluster_row_length (cluster_row mode gs c) ≡ cluster_row_size (length places)
  unfolding cluster_row
  row-of-places mode = ap cluster_row_size (count-glyph_rows +0 (glyphs_of gs c) ∙ sym places-length)

pub length-head : (mode : ℕ) (c : Cluster) (glyphs : ℕ) → length (cluster_head_bytes mode c glyphs) ≡ cluster_row_size 0
unfolding cluster_head_bytes
length-head mode c glyphs = simp (length-append, length-bytes, length-floats) (omega arith)

-- ---- how long it is

row-length : (mode : ℕ) (gs : List Glyph) (c : Cluster) → cluster_row_length (cluster_row mode gs c) ≡ cluster_row_size (length (glyphs_of gs c))
unfolding cluster_row
row-length mode gs c = ap cluster_row_size (count-glyph_rows +0 (glyphs_of gs c))

module _ (mode : ℕ) (gs : List Glyph) where
  module _ (count : ℕ) (e : length gs ≡ count) where
    row-size : (c : Cluster) → cluster_row_length (cluster_row mode gs c) ≡ cluster_size count c
    unfolding cluster_size
    row-size c =
        row-length mode gs c ∙ ap cluster_row_size (length-take c.count (drop c.from gs) ∙ ap (min c.count) (length-drop c.from gs ∙ ap (λ (n : ℕ). n - c.from) e))

    pub rows-size : (cs : List Cluster) → sum (map cluster_row_length (map (cluster_row mode gs) cs)) ≡ clusters_size count cs
    unfolding clusters_size
    rows-size [] = refl
    rows-size (c ∷ cs) = ap₂ ◌+◌ (row-size c) (rows-size cs)

    pub length-rows : (cs : List Cluster) → length (flat_map cluster_row_bytes (map (cluster_row mode gs) cs)) ≡ clusters_size count cs
    length-rows cs = length-flat_map cluster_row_bytes cluster_row_length length-cluster_row (map (cluster_row mode gs) cs) ∙ rows-size cs

-- as they are added up
pub rows_sized : (count : ℕ) (cs : List Cluster) → clusters_size count cs ≡ sum_by (cluster_size count) cs
unfolding clusters_size
rows_sized count cs = is_sum_by (λ (cs : List Cluster). sum (map (cluster_size count) cs)) (cluster_size count) refl (λ _ _. refl) cs

size-few : (count : ℕ) (c : Cluster) → cluster_size count c ≤ cluster_row_size count
unfolding cluster_size
size-few count c = omega arith

pub rows_few : (count : ℕ) (cs : List Cluster) → clusters_size count cs ≤ length cs * cluster_row_size count
unfolding clusters_size
rows_few count [] = omega arith
rows_few count (c ∷ cs) = omega (arith, size-few count c, rows_few count cs)

-- ---- a cluster's row, as it is put

abbrev pub row_in : ℕ → List Glyph → Cluster → List ℕ
row_in mode gs c = cluster_row_bytes (cluster_row mode gs c)

pub rows-in : (mode : ℕ) (gs : List Glyph) (cs : List Cluster) → flat_map (row_in mode gs) cs ≡ flat_map cluster_row_bytes (map (cluster_row mode gs) cs)
unfolding flat_map
rows-in mode glyphs [] = refl
rows-in mode glyphs (c ∷ cs) = ap (λ (bs : List ℕ). row_in mode glyphs c ++ bs) (rows-in mode glyphs cs)

pub rows-long : (mode : ℕ) (gs : List Glyph) (count : ℕ) → length gs ≡ count → (cs : List Cluster) → length (flat_map (row_in mode gs) cs) ≡ clusters_size count cs
rows-long mode gs count e cs = ap length (rows-in mode gs cs) ∙ length-rows mode gs count e cs

-- the next of them has room
pub row-room : (mode : ℕ) (gs : List Glyph) (cs : List Cluster) {old : List ℕ} {at : ℕ} {out : List ℕ} {here : ℕ} (i : ℕ) → RowsLeft (row_in mode gs) cs old at out here i
    → (d : Cluster) → i < length cs → here + cluster_row_length (cluster_row mode gs (get_or cs i d)) ≤ length out
row-room mode gs cs i left d h = omega (arith, length-cluster_row (cluster_row mode gs (get_or cs i d)), row_room (row_in mode gs) cs i left d h)
