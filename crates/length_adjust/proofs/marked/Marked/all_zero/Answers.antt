-- `length_adjust::marked::Marked::all_zero` meets its contract. Assumes nothing.
use mathlib.Core.Path.{◌∙◌}
use Prim.Native.Nat.{◌-◌}
use mathlib.Core.Path.{refl}
use native.Mathlib.Omega.{arith}
use borrow.Author.Tests.{tests}
use Rattle.std.proofs.Common.{rules}
use Rattle.std.proofs.lemmas.Iterator.{YieldsList-from_range}
use Rattle.std.proofs.lemmas.Iterator.Search.{all_from_yields_List}
use Rattle.text_order.proofs.Keys.{blank}
use Rattle.length_adjust.proofs.Walks.{flat-at, flat-range}
use Rattle.length_adjust.proofs.marked.Marked.all_zero.Goals as goal

pub returns : goal.returns
returns c =
    let a = c.args in
    let from = a.self.within.from in
    let n = a.self.within.to - from in
    all_from_yields_List (flat-at a.clusters.now a.self.marks.now blank) _ _ c.all.result c.all.ensures.ran (YieldsList-from_range from a.self.within.to n (cc) refl) (λ x b q k. search (rules, tests))
    ∙ flat-range a.clusters.now a.self.marks.now blank from n c.requires (λ h. omega arith)
