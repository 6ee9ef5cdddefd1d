-- What one sees who scrolls down a row of labels. Definitions only.
use Rattle.std.specs.Prelude.{ℕ, suc, ◌+◌, ◌≤◌, ◌≡◌, List, [], ◌∷◌, take, get_or, Float}
use Rattle.spec.specs.Outcome.{Outcome, refused, given}
use Rattle.column_window.specs.Window.{Window, width_of, added, empty}

-- the width that is shown for a label, and the window after it: a refused label leaves the window unchanged
abbrev pub shown : Outcome Window → Outcome Float
shown (refused n) = refused n
shown (given v) = given (width_of v)

abbrev pub after : Window → Outcome Window → Window
after w (refused n) = w
after w (given v) = v

-- what is shown for each of the labels xs, one after the other
abbrev pub answers : Window → List Float → List (Outcome Float)
answers w [] = []
answers w (x ∷ xs) = shown (added w x) ∷ answers (after w (added w x)) xs

-- who begins with xs, with a span of n labels
abbrev pub scroll : ℕ → List Float → List (Outcome Float)
scroll n xs = answers (empty n) xs

-- how many labels were accepted
abbrev pub accepted : List (Outcome Float) → ℕ
accepted [] = 0
accepted (refused n ∷ os) = accepted os
accepted (given x ∷ os) = suc (accepted os)

-- `os` was shown to one who scrolled from the top, `ps` to one who began `skipped` labels further down: the widths are the same at every label that
-- both windows accept, once the later one has filled, which is when it has accepted as many labels as its span, this one counted.
abbrev pub SameWidths : ℕ → ℕ → List (Outcome Float) → List (Outcome Float) → Type 0
SameWidths span skipped os ps = (i : ℕ) (a b : Float) → get_or os (skipped + i) (refused 0) ≡ given a → get_or ps i (refused 0) ≡ given b
    → span ≤ accepted (take (suc i) ps) → a ≡ b
