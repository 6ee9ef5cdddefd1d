-- Which words hold which window. Definitions only.
use Rattle.std.specs.Prelude.{ℕ, ◌+◌, ◌-◌, ◌≤◌, ◌<◌, ◌≡◌, Bool, true, List, ◌∷◌, ◌++◌, map, length, get_or, ltb}
use Rattle.std.specs.Float.{binary32}
use Rattle.std.specs.Float.Ieee.{of_bits}
use Rattle.spec.specs.Lists.{all}
use Rattle.column_window.specs.Window.{Window, span_ok, span_max, last_of}
use Rattle.column_window.specs.Words.{highest}

-- below the pattern of an infinity: a float that is finite, with the sign clear. Such floats have the order of their patterns.
abbrev pub is_extent : ℕ → Bool
is_extent p = ltb p 0x7f800000

-- The words b hold the window w. The labels of the running block are `running`, those accepted before it `before`, as patterns. Behind the running
-- labels, each place of the block has the highest of what `before` has within the span there.
pub record Holds (b : List ℕ) (w : Window) : Type 0 where
  pub before : List ℕ
  pub running : List ℕ
  pub behind : List ℕ
  pub words : b ≡ w.span ∷ length (before ++ running) ∷ length running ∷ highest running ∷ (running ++ behind)
  pub room : span_max ≤ length (running ++ behind)
  pub span : span_ok w.span ≡ true
  pub place : length running < w.span
  pub seen : w.seen ≡ map (of_bits binary32) (before ++ running)
  pub extents : all is_extent (before ++ running) ≡ true
  pub tails : (i : ℕ) → length running + i < w.span → get_or behind i 0 ≡ highest (last_of (w.span - (length running + i)) before)
