-- The table of first places, and what a step makes of it. Definitions only.
use Rattle.std.specs.Prelude.{ℕ, ◌+◌, ◌-◌, ◌≤◌, min, ◌/◌, cond, List, [], ◌∷◌, ltb, get_or, length, set, replicate}
use Rattle.spec.specs.declared.Glyph.{Glyph}
use Rattle.spec.specs.Merge.{place_of}
use Rattle.merge.specs.declared.index.FirstPlaces.{FirstPlaces}

-- the entry of a byte index: 32 neighbours share one
abbrev pub bucket_of : ℕ → ℕ
bucket_of b = b / 32

-- the glyphs gs, of which the first stands at place p, are put into the table from the last to the first
unfoldable pub buckets_from : ℕ → List Glyph → List ℕ → List ℕ
buckets_from p [] buckets = buckets
buckets_from p (g ∷ gs) buckets = set (buckets_from (p + 1) gs buckets) (bucket_of g.index) p

-- the table for the list gs, of so many entries: an entry that no glyph has is the list's length
unfoldable pub buckets_of : ℕ → List Glyph → List ℕ
buckets_of size gs = buckets_from 0 gs (replicate size (length gs))

-- the table with the entry of byte index b no later than `place`
abbrev pub lowered : List ℕ → ℕ → ℕ → List ℕ
lowered buckets b place = set buckets (bucket_of b) (min (get_or buckets (bucket_of b) 0) place)

-- a table, and its slack: how many glyphs were inserted or removed since it was made
pub record Table : Type 0 where
  pub buckets : List ℕ
  pub slack : ℕ

abbrev pub table : List ℕ → ℕ → Table
table buckets slack = record { buckets = buckets; slack = slack }

-- as the code holds it
abbrev pub seen : FirstPlaces → Table
seen t = table t.buckets.now t.slack

-- after a step that took the list from `old` to `count` glyphs: where it is longer, a glyph of byte index b was inserted at `place`
unfoldable pub table_after : ℕ → ℕ → ℕ → ℕ → Table → Table
table_after old count b place t =
    cond (ltb old count) (table (lowered t.buckets b place) (t.slack + 1)) (table t.buckets (t.slack + (old - count)))

-- made anew for the list gs, if its slack is past 32
unfoldable pub renewed : List Glyph → Table → Table
renewed gs t = cond (ltb 32 t.slack) (table (buckets_of (length t.buckets) gs) 0) t

-- no entry of the table is more than its slack past the place of the first glyph of one of its byte indexes. Past the table's end it counts as 0
abbrev pub IsFor : Table → List Glyph → Type 0
IsFor t gs = (b : ℕ) → get_or t.buckets (bucket_of b) 0 ≤ place_of b gs + t.slack
