-- What the walks test, given the bytes from a record on. Definitions only.
use Rattle.std.specs.Prelude.{ℕ, Bool, ◌≡◌, ◌&&◌, List, [], ◌∷◌, drop, leb}
use Rattle.spec.specs.Lists.{all, every}
use Rattle.spec.specs.declared.Glyph.{Glyph}
use Rattle.spec.specs.Decode.{list_fits, font_count, dx_at, dy_at, rotate_at, chunk_count}
use Rattle.spec.specs.Job.{Job, limits}
use Rattle.spec.specs.Utf8.{starts_at}
use Rattle.spec.specs.Check.{float_ok}

-- whatever the call gives of a record is what the test says of it
abbrev pub Tests : (List ℕ → Bool → Type 0) → (List ℕ → Bool) → Type 0
Tests gives test = (bs : List ℕ) (b : Bool) → gives bs b → b ≡ test bs

-- a glyph's byte index is the start of a character
abbrev pub index_ok : List ℕ → Glyph → Bool
index_ok text g = starts_at text g.index

-- the counts of a job's own lists are within their limits, and the three lists of floats are there
unfoldable pub counts_fit : List ℕ → Bool
counts_fit bs =
    every
    (leb (font_count bs) limits.fonts
    ∷ list_fits (drop (dx_at bs) bs)
    ∷ list_fits (drop (dy_at bs) bs)
    ∷ list_fits (drop (rotate_at bs) bs)
    ∷ leb (chunk_count bs) limits.chunks
    ∷ [])

-- every float of dx, dy and rotate is in range
abbrev pub lists_ok : Job → Bool
lists_ok j = all float_ok j.dx && all float_ok j.dy && all float_ok j.rotate
