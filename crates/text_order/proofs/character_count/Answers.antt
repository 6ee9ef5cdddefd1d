-- `text_order::character_count` meets its contract. Assumes nothing.
use mathlib.Core.Path.{◌≡◌, ap, ◌∙◌}
use native.Mathlib.Omega.{arith}
use lib.Seq.{take-length}
use Rattle.spec.specs.Utf8.{characters}
use Rattle.text_order.proofs.Numbers.{characters-few}
use Rattle.text_order.proofs.character_count.Goals as goal

pub returns : goal.returns
returns c =
    let counted = c.characters_between in
    let text = c.args.text.now in
    let is : counted.result ≡ characters text = counted.ensures ∙ ap characters (take-length text) in
    (is, omega (arith, characters-few text))
