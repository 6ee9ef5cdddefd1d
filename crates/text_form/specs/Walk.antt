-- A walk over an answer's rows. Definitions only.
use Rattle.std.specs.Prelude.{ℕ, List, drop}
use Rattle.spec.specs.Bytes.{sizes}

-- what stands behind the first n records of bs
abbrev pub behind : (List ℕ → ℕ) → ℕ → List ℕ → List ℕ
behind size n bs = drop (sizes size n bs) bs
