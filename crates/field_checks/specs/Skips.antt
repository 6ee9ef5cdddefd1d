-- UTF-8 from a place in the text on. Definitions only.
use Rattle.std.specs.Prelude.{ℕ, ◌≤◌, ◌≡◌, Bool, length, drop}
use mathlib.Core.List.{List, foldl}
use Rattle.spec.specs.Utf8.{next, is_boundary, is_utf8}
use Rattle.spec.specs.declared.Utf8State.TheVariants.{Expecting}

-- j is not before i, and the bytes from j on are UTF-8 just where those from i on are
pub record Skips (text : List ℕ) (i j : ℕ) : Type 0 where
  pub onward : i ≤ j
  pub inside : j ≤ length text
  pub same : is_utf8 (drop j text) ≡ is_utf8 (drop i text)

-- the bytes are UTF-8 after the first bytes of a character, which expects n more, the next between two bounds
unfoldable pub utf8_after : ℕ → ℕ → ℕ → List ℕ → Bool
utf8_after n low high bytes = is_boundary (foldl next (Expecting n low high) bytes)
