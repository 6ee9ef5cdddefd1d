-- The width of a column down a row of labels, from document 02, note 13. Definitions only.
use Rattle.std.specs.Prelude.{ℕ, ◌-◌, Bool, cond, ◌&&◌, length, drop, leb, ltb, Float}
use mathlib.Core.List.{List, [], ◌∷◌, ◌++◌, foldl}
use Rattle.std.specs.Float.Ieee.{lt, le}
use Rattle.std.specs.Float.Ieee.Scale.{finite}
use Rattle.spec.specs.Single.{+0, is_zero}
use Rattle.spec.specs.Outcome.{Outcome, refused, given}

-- a window takes up to 65,535 label extents
abbrev pub labels_most : ℕ
labels_most = 65535

-- a span has 1 to 64 labels
abbrev pub span_max : ℕ
span_max = 64

unfoldable pub span_ok : ℕ → Bool
span_ok n = leb 1 n && leb n span_max

-- finite, and not below zero
unfoldable pub extent_ok : Float → Bool
extent_ok x = finite x && le +0 x

-- zero of either sign counts as plus zero
unfoldable pub plain : Float → Float
plain x = cond (is_zero x) +0 x

-- the last n of a list; all of it where it has fewer
unfoldable pub last_of : {A : Type 0} → ℕ → List A → List A
last_of n xs = drop (length xs - n) xs

unfoldable pub larger : Float → Float → Float
larger w x = cond (lt w x) x w

-- the largest, at least plus zero
unfoldable pub widest : List Float → Float
widest xs = foldl larger +0 xs

-- a window that has accepted the extents `seen`, the newest last
pub record Window : Type 0 where
  pub span : ℕ
  pub seen : List Float

-- an empty one, and one with a label more
abbrev pub empty : ℕ → Window
empty n = record { span = n; seen = [] }

abbrev pub with : Window → Float → Window
with w x = record { span = w.span; seen = w.seen ++ (plain x ∷ []) }

-- the largest among the last labels within the span
unfoldable pub width_of : Window → Float
width_of w = widest (last_of w.span w.seen)

-- the window with one label more, or why it is refused: 4, an extent that is not finite or is below zero; then 3, one label too many
unfoldable pub added : Window → Float → Outcome Window
added w x = cond (extent_ok x) (cond (ltb (length w.seen) labels_most) (given (with w x)) (refused 3)) (refused 4)
