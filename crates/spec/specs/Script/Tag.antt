-- A tag's letters as the number that its bytes hold. Definitions only.
use Rattle.std.specs.Prelude.{ℕ, ◌+◌, ◌*◌}
use Prim.Native.String.{String, [], ◌∷◌}
use Prim.Native.Char.{code}

unfoldable pub letters : ℕ → String → ℕ
letters n [] = n
letters n (c ∷ s) = letters (n * 256 + code c) s

-- a script tag, its first letter in the highest byte
unfoldable pub tag : String → ℕ
tag s = letters 0 s
