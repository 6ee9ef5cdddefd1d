-- A refusal by its name, and what a call of the code gives as the definitions' outcome. Definitions only.
use Rattle.std.specs.Prelude.{ℕ, Ok, Err}
use Rattle.std.specs.declared.result.Result.{Result}
use Rattle.spec.specs.Outcome.{Outcome, refused, given}
use Rattle.spec.specs.declared.Refusal.{Refusal}
use Rattle.spec.specs.declared.Refusal.TheVariants.{BadLength, BadVersion, BadCount, BadField, BadText, BadSpan, MergePastEnd, TooManyGlyphs, NoWidth, NoRoom}

-- document 01's number
abbrev pub refusal_number : Refusal → ℕ
refusal_number BadLength = 1
refusal_number BadVersion = 2
refusal_number BadCount = 3
refusal_number BadField = 4
refusal_number BadText = 5
refusal_number BadSpan = 6
refusal_number MergePastEnd = 7
refusal_number TooManyGlyphs = 8
refusal_number NoWidth = 9
refusal_number NoRoom = 10

-- the value, or the refusal's number
abbrev pub outcome_of : {A : Type 0} → Result A Refusal → Outcome A
outcome_of (Ok a) = given a
outcome_of (Err r) = refused (refusal_number r)
