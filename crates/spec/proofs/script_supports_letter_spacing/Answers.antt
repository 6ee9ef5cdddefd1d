use mathlib.Core.Path.{refl}
use Rattle.spec.specs.Lists.{any}
use Rattle.spec.specs.Script.{unspaced, script_supports_letter_spacing}
use Rattle.spec.specs.Script.Tag.{tag, letters}
use Rattle.spec.proofs.script_supports_letter_spacing.Goals as goal

pub returns : goal.returns
unfolding script_supports_letter_spacing unspaced tag letters any
returns c = rw c.contains.ensures.value refl
