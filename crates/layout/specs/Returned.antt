-- What the call returns as document 01's number and length. Definitions only.
use Rattle.std.specs.Prelude.{ℕ, Ok, Err}
use Rattle.std.specs.declared.result.Result.{Result}
use Rattle.spec.specs.declared.Refusal.{Refusal}
use Rattle.spec.specs.Refusal.{refusal_number}

-- 0, or the refusal's number
abbrev pub returned_number : Result ℕ Refusal → ℕ
returned_number (Ok n) = 0
returned_number (Err r) = refusal_number r

-- the answer's whole length; 0 of a refusal
abbrev pub returned_length : Result ℕ Refusal → ℕ
returned_length (Ok n) = n
returned_length (Err r) = 0
