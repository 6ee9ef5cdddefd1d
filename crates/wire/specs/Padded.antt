-- Bytes of which some may be missing. Definitions only.
use Rattle.std.specs.Prelude.{ℕ, zero, suc, List, [], ◌∷◌, ◌++◌, get_or}

-- the first n bytes, with 0 for each that is missing
unfoldable pub padded_of : ℕ → List ℕ → List ℕ
padded_of zero bs = []
padded_of (suc n) bs = padded_of n bs ++ (get_or bs n 0 ∷ [])
