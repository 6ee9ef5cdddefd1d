-- The glyphs of a merged list that make a cluster, by their places in it: what forming the clusters asks for, and what it gives. Definitions only.
use Rattle.std.specs.Prelude.{ℕ, ◌≤◌, ◌<◌, ◌≡◌, Bool, true, List, map, length, get_or, take, drop, ltb}
use Rattle.spec.specs.declared.Glyph.{Glyph}
use Rattle.spec.specs.Lists.{all}
use Rattle.spec.specs.Check.{units_ok}
use Rattle.spec.specs.Decode.{glyph_of}
use Rattle.spec.specs.Group.{Group, groups}
use Rattle.spec.specs.Cluster.{rounded, form_glyph_clusters}
use Rattle.spec.specs.declared.Cluster.{Cluster}
use Rattle.spec.specs.Arithmetic.{indexes}
use Rattle.job_rows.specs.Rows.{fonts_in, spans_in, glyphs_at, glyphs_in}

-- every width is within its bounds, as in a checked job
abbrev pub widths_ok : List Glyph → Bool
widths_ok gs = all (λ (g : Glyph). units_ok g.width) gs

-- ---- some of the merged glyphs

-- the one at place i
abbrev pub glyph_in : List ℕ → List ℕ → ℕ → Glyph
glyph_in s merged i = glyph_of (drop (get_or merged i 0) s)

-- those from place `from` to `end`
abbrev pub glyphs_from : List ℕ → List ℕ → ℕ → ℕ → List Glyph
glyphs_from s merged from end = drop from (glyphs_in s merged end)

-- the group of these, which span k covers
unfoldable pub group_in : List ℕ → List ℕ → ℕ → ℕ → ℕ → Group
group_in s merged from end k =
    record { from = from; first = glyph_in s merged from; glyphs = glyphs_from s merged from end; span = k }

-- at least one of them, with widths that can be measured
pub record Measurable (s merged : List ℕ) (from end : ℕ) : Type 0 where
  pub some : from < end
  pub inside : end ≤ length merged
  pub widths : widths_ok (glyphs_from s merged from end) ≡ true

-- ---- all clusters

-- how many clusters the merged glyphs make: the runs of neighbours of one byte index that a span covers
abbrev pub clusters_in : List ℕ → List ℕ → List ℕ → ℕ
clusters_in s spans merged = length (groups (spans_in s spans) (glyphs_at s merged))

-- the merged glyphs can be formed: a place and a span fit in a word, the widths can be measured, and each cluster has its row
pub record ClustersFormable (s spans merged : List ℕ) (clusters : List Cluster) : Type 0 where
  pub few_glyphs : length merged ≤ 1024
  pub few_spans : length spans < 256
  pub widths : widths_ok (glyphs_at s merged) ≡ true
  pub rows : clusters_in s spans merged ≤ length clusters

-- the first n rows hold the clusters of the merged glyphs
pub record FormedInto (s : List ℕ) (fonts : ℕ) (spans merged : List ℕ) (table : List Cluster) (n : ℕ) : Type 0 where
  pub clusters : take n table ≡ map (form_glyph_clusters (fonts_in s fonts) (spans_in s spans)) (groups (spans_in s spans) (glyphs_at s merged))
  pub few : n ≤ length merged
  pub count : n ≡ clusters_in s spans merged
  pub indexes : all (λ (i : ℕ). ltb i 65536) (indexes rounded (take n table)) ≡ true
