-- A cluster row before its glyphs, and how many bytes the rows of clusters have. Definitions only.
use Rattle.std.specs.Prelude.{ℕ, ◌-◌, min, Float}
use mathlib.Core.List.{List, [], ◌∷◌, ◌++◌, map, flat_map}
use Rattle.spec.specs.declared.Cluster.{Cluster}
use Rattle.spec.specs.Bytes.{bytes, float_bytes}
use Rattle.spec.specs.Answer.{sum, cluster_row_size}
use Rattle.spec.specs.Layout.{flags_of}

-- a cluster's floats, as they are written
abbrev pub floats_of : Cluster → List Float
floats_of c =
    c.width ∷ c.advance ∷ c.spacing ∷ c.ascent ∷ c.descent ∷ c.nudge ∷ c.scale ∷ c.x ∷ c.y ∷ c.angle ∷ []

-- the row of a cluster with so many glyphs, up to them
unfoldable pub cluster_head_bytes : ℕ → Cluster → ℕ → List ℕ
cluster_head_bytes mode c glyphs = bytes 2 c.index ++ (bytes 1 (flags_of mode c) ++ (flat_map float_bytes (floats_of c) ++ bytes 2 glyphs))

-- how many glyphs of a merged list of `count` are the cluster's
abbrev pub glyphs_within : ℕ → Cluster → ℕ
glyphs_within count c = min c.count (count - c.from)

unfoldable pub cluster_size : ℕ → Cluster → ℕ
cluster_size count c = cluster_row_size (glyphs_within count c)

unfoldable pub clusters_size : ℕ → List Cluster → ℕ
clusters_size count cs = sum (map (cluster_size count) cs)
