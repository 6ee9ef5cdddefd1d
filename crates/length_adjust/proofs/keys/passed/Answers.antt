-- `length_adjust::keys::passed` meets its contract. Assumes nothing.
use Prim.Native.Nat.{ℕ, ◌/◌}
use mathlib.Core.Path.{ap, ◌∙◌}
use native.Mathlib.Omega.{arith}
use lib.Dec.{leb}
use lib.ListN.{length}
use borrow.Author.Tests.{tests}
use Rattle.std.specs.Option.{unwrap_or}
use Rattle.std.proofs.Common.{rules}
use Rattle.std.proofs.lemmas.Iterator.{YieldsList-from_slice}
use Rattle.std.proofs.lemmas.Iterator.Search.{position_from_yields_List}
use Rattle.length_adjust.proofs.Passed.{below-most, or-length}
use Rattle.length_adjust.proofs.keys.passed.Goals as goal

pub returns : goal.returns
returns c =
    let b = c.args.b in
    let keys = c.args.keys.now in
    let n = length keys in
    let found =
    position_from_yields_List (λ (key : ℕ). leb b (key / 65536)) _ _ c.position.result c.position.ensures.ran (YieldsList-from_slice keys (cc)) (λ x b q k. search (rules, tests)) in
    let is = c.unwrap_or.ensures ∙ ap (λ o. unwrap_or o n) found ∙ or-length b keys in
    (is, omega (arith, is, below-most b keys))
