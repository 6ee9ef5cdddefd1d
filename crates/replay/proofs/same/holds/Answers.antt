-- `replay::same::holds` meets its contract. Assumes nothing.
use Rattle.std.proofs.Common.{◌≡◌, ℕ, List, Bool, eqb, rules, ap, sym, ◌∙◌}
use borrow.Author.Tests.{tests}
use Rattle.std.specs.List.{list_all}
use Rattle.std.proofs.lemmas.Iterator.{YieldsList-from_slice}
use Rattle.std.proofs.lemmas.Iterator.Search.{all_from_yields_List}
use Rattle.spec.specs.Lists.{all}
use Rattle.replay.specs.Same.{same}
use Rattle.replay.proofs.Tests.{pointwise-same, list_all-all}
use Rattle.replay.proofs.same.holds.Goals as goal

pub returns-then-begins : goal.returns-then-begins
returns-then-begins c =
    let is : ℕ → Bool = λ (x : ℕ). eqb x 165 in
    let rest = c.tail.result.now in
    let first = c.eq-begins.ensures ∙ pointwise-same c.window.result.now c.args.answer.now ∙ ap (λ (xs : List ℕ). same xs c.args.answer.now) c.window.ensures in
    let others : c.all.result ≡ list_all is rest =
    all_from_yields_List is _ _ _ c.all.ensures.ran (YieldsList-from_slice rest cc) (λ x b q k. search (rules, tests)) in
    rw (sym first ∙ c.if-begins.true) (others ∙ list_all-all is rest ∙ ap (all is) c.tail.ensures)

pub returns-else-begins : goal.returns-else-begins
returns-else-begins c =
    let first = c.eq-begins.ensures ∙ pointwise-same c.window.result.now c.args.answer.now ∙ ap (λ (xs : List ℕ). same xs c.args.answer.now) c.window.ensures in
    rw (sym first ∙ c.if-begins.false) c.if-begins.false
