-- A refusal by its name, and what a call gives as a number and a width. Definitions only.
use Rattle.std.specs.Prelude.{ℕ, Ok, Err, Float}
use Rattle.std.specs.declared.result.Result.{Result}
use Rattle.spec.specs.Single.{+0}
use Rattle.column_window.specs.declared.refusal.ColumnRefusal.{ColumnRefusal}
use Rattle.column_window.specs.declared.refusal.ColumnRefusal.TheVariants.{TooManyLabels, BadExtent, NoRoom, BadWindow}

abbrev pub refusal_number : ColumnRefusal → ℕ
refusal_number TooManyLabels = 3
refusal_number BadExtent = 4
refusal_number NoRoom = 10
refusal_number BadWindow = 19

-- 0, or the refusal's number
abbrev pub number_of : {A : Type 0} → Result A ColumnRefusal → ℕ
number_of (Ok a) = 0
number_of (Err r) = refusal_number r

-- the width; 0 of a refusal
abbrev pub width_given : Result Float ColumnRefusal → Float
width_given (Ok width) = width
width_given (Err r) = +0
