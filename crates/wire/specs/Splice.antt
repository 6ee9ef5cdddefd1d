-- A buffer with bytes put into it. Definitions only.
use Rattle.std.specs.Prelude.{ℕ, ◌+◌, List, ◌++◌, length, take, drop}

-- the list with `bs` in the place of as many elements from `at` on
unfoldable pub splice : {A : Type 0} → List A → ℕ → List A → List A
splice l at bs = take at l ++ (bs ++ drop (at + length bs) l)
