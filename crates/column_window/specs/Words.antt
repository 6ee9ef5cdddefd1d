-- The words that a host lends, as the calls read and write them. Extents stand there as patterns. Definitions only.
use Rattle.std.specs.Prelude.{ℕ, ◌+◌, ◌-◌, ◌≤◌, ◌<◌, max, cond, List, [], ◌∷◌, ◌++◌, length, take, drop, set, get_or, replicate, ltb, Float}
use Rattle.std.specs.Float.{binary32}
use Rattle.std.specs.Float.Ieee.{to_bits}
use Rattle.column_window.specs.Window.{labels_most, span_max, plain}

-- ---- what stands where: the span, how many labels were accepted, how many of them are in the running block, the highest of these, and the block

abbrev pub span_word : List ℕ → ℕ
span_word b = get_or b 0 0

abbrev pub count_word : List ℕ → ℕ
count_word b = get_or b 1 0

abbrev pub place_word : List ℕ → ℕ
place_word b = get_or b 2 0

abbrev pub best_word : List ℕ → ℕ
best_word b = get_or b 3 0

abbrev pub block_words : List ℕ → List ℕ
block_words b = drop 4 b

-- four words, and a block for the longest span
abbrev pub window_words : ℕ
window_words = 4 + span_max

-- ---- patterns

-- the one that is kept of an extent
unfoldable pub pattern_of : Float → ℕ
pattern_of x = to_bits binary32 (plain x)

unfoldable pub highest : List ℕ → ℕ
highest [] = 0
highest (x ∷ xs) = max x (highest xs)

-- at each place the highest from there on
unfoldable pub tails : List ℕ → List ℕ
unfolding highest
tails [] = []
tails (x ∷ xs) = highest (x ∷ xs) ∷ tails xs

-- ---- what the calls make of the words

-- an empty window
unfoldable pub opened_words : List ℕ → ℕ → List ℕ
opened_words b n = n ∷ (replicate (window_words - 1) 0 ++ drop window_words b)

-- the block with the pattern x at the running place
abbrev pub put_block : List ℕ → ℕ → List ℕ
put_block b x = set (block_words b) (place_word b) x

-- a label within the block
abbrev pub moved_words : List ℕ → ℕ → List ℕ
moved_words b x = span_word b ∷ (count_word b + 1) ∷ (place_word b + 1) ∷ max (best_word b) x ∷ put_block b x

-- a label that fills it: the block's tails take its place, and the next block begins
abbrev pub turned_words : List ℕ → ℕ → List ℕ
turned_words b x = span_word b ∷ (count_word b + 1) ∷ 0 ∷ 0 ∷ (tails (take (span_word b) (put_block b x)) ++ drop (span_word b) (put_block b x))

unfoldable pub added_words : List ℕ → ℕ → List ℕ
added_words b x = cond (ltb (place_word b + 1) (span_word b)) (moved_words b x) (turned_words b x)

-- the pattern of the width: the higher of what stands at the running place and the highest of the running block
unfoldable pub width_pattern : List ℕ → ℕ
width_pattern b = max (get_or (block_words b) (place_word b) 0) (best_word b)

-- what a label asks of the words that it is put into: then nothing is read or written outside them
pub record Ready (b : List ℕ) : Type 0 where
  pub room : window_words ≤ length b
  pub span : span_word b ≤ span_max
  pub place : place_word b < span_word b
  pub count : count_word b < labels_most
