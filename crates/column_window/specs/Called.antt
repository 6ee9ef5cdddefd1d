-- What the calls promise, of any words that are lent; and of words that hold a window, by what the definitions give. Definitions only.
use Rattle.std.specs.Prelude.{ℕ, ◌<◌, ◌≡◌, Bool, cond, ◌&&◌, List, [], ◌∷◌, length, drop, eqb, ltb, Float}
use Rattle.std.specs.Float.{binary32}
use Rattle.std.specs.Float.Ieee.{of_bits}
use Rattle.spec.specs.Single.{+0}
use Rattle.spec.specs.Outcome.{Outcome, refused, given}
use Rattle.column_window.specs.Window.{Window, labels_most, span_ok, extent_ok, added, empty}
use Rattle.column_window.specs.Scroll.{shown, after}
use Rattle.column_window.specs.Words.{window_words, span_word, count_word, place_word, pattern_of, opened_words, added_words, width_pattern}
use Rattle.column_window.specs.State.{Holds}

-- ---- the numbers, 0 where nothing is refused

-- of `open_window`: 19, the span; 10, too few words
unfoldable pub open_number : List ℕ → ℕ → ℕ
open_number b span = cond (span_ok span) (cond (ltb (length b) window_words) 10 0) 19

-- whether the words can be a window's: their span is one, and their running place lies within it
unfoldable pub is_window : List ℕ → Bool
is_window b = span_ok (span_word b) && ltb (place_word b) (span_word b)

-- of words that are lent with a label: 10, too few; 19, words that no call has left
unfoldable pub words_number : List ℕ → ℕ
words_number b = cond (ltb (length b) window_words) 10 (cond (is_window b) 0 19)

-- of `add_extent`: 4, the extent; 3, one label too many; then the words
unfoldable pub add_number : List ℕ → Float → ℕ
add_number b x = cond (extent_ok x) (cond (ltb (count_word b) labels_most) (words_number b) 3) 4

-- a number and a width as one answer
abbrev pub outcome_of : ℕ → Float → Outcome Float
outcome_of n width = cond (eqb n 0) (given width) (refused n)

-- ---- the promises: of the words `old`, the number and the width that come back, and the words `new` that are left

pub record WindowOpened (old : List ℕ) (span : ℕ) (n : ℕ) (width : Float) (new : List ℕ) : Type 0 where
  pub number : n ≡ open_number old span
  pub zero : width ≡ +0
  pub untouched : 0 < n → new ≡ old
  pub words : n ≡ 0 → new ≡ opened_words old span
  pub past : drop window_words new ≡ drop window_words old
  pub holds : n ≡ 0 → Holds new (empty span)

pub record ExtentAdded (old : List ℕ) (x : Float) (n : ℕ) (width : Float) (new : List ℕ) : Type 0 where
  pub number : n ≡ add_number old x
  pub zero : 0 < n → width ≡ +0
  pub untouched : 0 < n → new ≡ old
  pub words : n ≡ 0 → new ≡ added_words old (pattern_of x)
  pub shows : n ≡ 0 → width ≡ of_bits binary32 (width_pattern new)
  pub past : drop window_words new ≡ drop window_words old
  pub answer : (w : Window) → Holds old w → outcome_of n width ≡ shown (added w x)
  pub holds : (w : Window) → Holds old w → Holds new (after w (added w x))

-- ---- a run of calls: extents added one after the other, each to the words that the one before left

pub data Calls : List ℕ → List Float → List (Outcome Float) → Type 0 where
  none : {b : List ℕ} → Calls b [] []
  call : {b c : List ℕ} {x width : Float} {n : ℕ} {xs : List Float} {os : List (Outcome Float)} → ExtentAdded b x n width c → Calls c xs os
      → Calls b (x ∷ xs) (outcome_of n width ∷ os)
