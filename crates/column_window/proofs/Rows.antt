-- The definitions, computed: a row for each rule of document 02, note 13. Assumes nothing.
use Prim.Native.Nat.{ℕ}
use mathlib.Core.Path.{◌≡◌, refl}
use mathlib.Core.Bool.{true, false}
use mathlib.Core.List.{List, [], ◌∷◌, ◌++◌}
use lib.ListN.{replicate}
use lib.Ieee.{Float, binary32, lt, le, eq, of_bits}
use Rattle.spec.specs.Single.{+0}
use Rattle.spec.specs.Outcome.{refused, given}
use Rattle.column_window.specs.Window.{Window, span_ok, extent_ok, plain, last_of, larger, widest, width_of, empty, with, added}
use Rattle.column_window.specs.Scroll.{scroll, accepted}
use Rattle.column_window.specs.Words.{highest, tails, opened_words, added_words, width_pattern}
use Rattle.column_window.specs.Called.{open_number, is_window, words_number, add_number, outcome_of}

abbrev float : ℕ → Float
float p = of_bits binary32 p

abbrev one : Float
one = float 0x3f800000

abbrev two : Float
two = float 0x40000000

abbrev three : Float
three = float 0x40400000

-- ---- spans

spans : (span_ok 0 ≡ false) × (span_ok 1 ≡ true) × (span_ok 64 ≡ true) × (span_ok 65 ≡ false)
unfolding span_ok
spans = (refl, refl, refl, refl)

-- fewer at the start; the largest leaves with the label that is one more than the span behind it
by_two : scroll 2 (one ∷ three ∷ two ∷ one ∷ one ∷ []) ≡ given one ∷ given three ∷ given three ∷ given two ∷ given one ∷ []
unfolding extent_ok plain last_of larger widest width_of added lt le eq of_bits
by_two = refl

by_three : scroll 3 (three ∷ one ∷ two ∷ one ∷ one ∷ []) ≡ given three ∷ given three ∷ given three ∷ given two ∷ given two ∷ []
unfolding extent_ok plain last_of larger widest width_of added lt le eq of_bits
by_three = refl

-- a span of one label is the label itself
by_one : scroll 1 (three ∷ one ∷ two ∷ []) ≡ given three ∷ given one ∷ given two ∷ []
unfolding extent_ok plain last_of larger widest width_of added lt le eq of_bits
by_one = refl

-- a span of 64: the first label is seen up to the 64th
by-64 : scroll 64 (two ∷ replicate 64 one) ≡ replicate 64 (given two) ++ (given one ∷ [])
unfolding extent_ok plain last_of larger widest width_of added lt le eq of_bits
by-64 = refl

-- nobody has seen anything
none_seen : (width_of (empty 1) ≡ +0) × (width_of (empty 64) ≡ +0)
unfolding width_of widest last_of
none_seen = (refl, refl)

-- ---- extents

-- zero of either sign counts as plus zero
zeros : scroll 2 (float 0x80000000 ∷ +0 ∷ float 0x80000000 ∷ []) ≡ given +0 ∷ given +0 ∷ given +0 ∷ []
unfolding extent_ok plain last_of larger widest width_of added lt le eq of_bits
zeros = refl

-- every finite extent that is not below zero passes: the smallest, the largest, and what a job's floats may not be
passes : scroll 1 (float 0x00000001 ∷ float 0x007fffff ∷ float 0x357fffff ∷ float 0x49800001 ∷ float 0x7f7fffff ∷ [])
    ≡ given (float 0x00000001) ∷ given (float 0x007fffff) ∷ given (float 0x357fffff) ∷ given (float 0x49800001) ∷ given (float 0x7f7fffff) ∷ []
unfolding extent_ok plain last_of larger widest width_of added lt le eq of_bits
passes = refl

-- not finite, or below zero: NaNs of either sign, the infinities, -1, and what is just below zero
fails : scroll 1 (float 0x7fc00000 ∷ float 0xffc00000 ∷ float 0x7f800001 ∷ float 0x7f800000 ∷ float 0xff800000 ∷ float 0xbf800000 ∷ float 0x80000001 ∷ [])
    ≡ replicate 7 (refused 4)
unfolding extent_ok plain last_of larger widest width_of added lt le eq of_bits
fails = refl

-- a refused extent leaves the window unchanged, and does not count
between-two : scroll 2 (three ∷ float 0x7f800000 ∷ one ∷ float 0xbf800000 ∷ one ∷ []) ≡ given three ∷ refused 4 ∷ given three ∷ refused 4 ∷ given one ∷ []
unfolding extent_ok plain last_of larger widest width_of added lt le eq of_bits
between-two = refl

-- who begins at the second label sees another width there, and the same from the next on, when the span is full
from-the-second : (scroll 2 (three ∷ one ∷ two ∷ []) ≡ given three ∷ given three ∷ given two ∷ []) × (scroll 2 (one ∷ two ∷ []) ≡ given one ∷ given two ∷ [])
unfolding extent_ok plain last_of larger widest width_of added lt le eq of_bits
from-the-second = (refl, refl)

counts : accepted (given one ∷ refused 4 ∷ given one ∷ refused 3 ∷ []) ≡ 2
counts = refl

-- ---- one label too many

abbrev after-labels : ℕ → Window
after-labels k = record { span = 1; seen = replicate k one }

the_last : added (after-labels 65534) two ≡ given (with (after-labels 65534) two)
unfolding added extent_ok le lt eq of_bits
the_last = refl

too_many : added (after-labels 65535) two ≡ refused 3
unfolding added extent_ok le lt eq of_bits
too_many = refl

-- 4 comes first
both : added (after-labels 65535) (float 0x7f800000) ≡ refused 4
unfolding added extent_ok of_bits
both = refl

-- ---- the numbers of the calls

-- 19, then 10
opening : (open_number (replicate 68 0) 1 ≡ 0) × (open_number (replicate 67 0) 1 ≡ 10) × (open_number (replicate 67 0) 65 ≡ 19) × (open_number (replicate 68 0) 0 ≡ 19)
unfolding open_number span_ok
opening = (refl, refl, refl, refl)

-- 4, then 3, then 10, and then 19
adding : (add_number (1 ∷ 65535 ∷ []) (float 0x7f800000) ≡ 4) × (add_number (1 ∷ 65535 ∷ []) one ≡ 3) × (add_number (1 ∷ 65534 ∷ []) one ≡ 10) × (add_number (replicate 67 1) one ≡ 10)
unfolding add_number words_number is_window span_ok extent_ok le lt eq of_bits
adding = (refl, refl, refl, refl)

abbrev words : ℕ → ℕ → List ℕ
words span place = span ∷ 0 ∷ place ∷ replicate 65 0

no-window : (add_number (words 0 0) one ≡ 19) × (add_number (words 65 0) one ≡ 19) × (add_number (words 2 2) one ≡ 19) × (add_number (words 2 1) one ≡ 0)
unfolding add_number words_number is_window span_ok extent_ok le lt eq of_bits
no-window = (refl, refl, refl, refl)

-- a number and a width as an answer
answered : (outcome_of 0 one ≡ given one) × (outcome_of 3 +0 ≡ refused 3)
answered = (refl, refl)

-- ---- the words

-- a span of 2: two labels fill the block, whose tails take its place; behind the words of a window stands one that is not its
filling : added_words (added_words (opened_words (replicate 69 7) 2) 5) 3 ≡ (2 ∷ 2 ∷ 0 ∷ 0 ∷ 5 ∷ 3 ∷ replicate 62 0) ++ (7 ∷ [])
unfolding opened_words added_words tails highest
filling = refl

-- the next label is put over the first tail, and the width is the higher of it and the second
refilling : (added_words (2 ∷ 2 ∷ 0 ∷ 0 ∷ 5 ∷ 3 ∷ []) 1 ≡ 2 ∷ 3 ∷ 1 ∷ 1 ∷ 1 ∷ 3 ∷ []) × (width_pattern (2 ∷ 3 ∷ 1 ∷ 1 ∷ 1 ∷ 3 ∷ []) ≡ 3)
unfolding added_words width_pattern tails highest
refilling = (refl, refl)
