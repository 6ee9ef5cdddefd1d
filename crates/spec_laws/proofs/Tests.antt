-- What a test in the code shows, where its result is that of a definition. Assumes nothing.
use mathlib.Core.Path.{◌≡◌, sym, ◌∙◌}
use mathlib.Core.Bool.{Bool, true, false, not}
use borrow.Author.Tests.{not-true, not-false}

pub failed : {b o : Bool} → b ≡ o → not b ≡ true → o ≡ false
failed {b} e h = sym e ∙ not-true b h

pub passed : {b o : Bool} → b ≡ o → not b ≡ false → o ≡ true
passed {b} e h = sym e ∙ not-false b h
