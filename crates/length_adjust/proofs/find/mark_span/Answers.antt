-- `length_adjust::find::mark_span` meets its contract. Assumes nothing.
use Prim.Native.Nat.{ℕ, ◌/◌, ◌≤◌}
use mathlib.Core.Path.{ap, ◌∙◌}
use lib.ListN.{length}
use borrow.Author.Tests.{le-leb}
use Rattle.spec_laws.proofs.All.{all-weaken, all_true}
use Rattle.spec.specs.Lists.{all}
use Rattle.sort.specs.Sorted.{ascending}
use Rattle.sort.proofs.Ascending.{ascends-of-ascending, ascending-of-ascends}
use Rattle.length_adjust.specs.Marks.{marked, taking_part}
use Rattle.length_adjust.proofs.Passed.{own-ascends, own-from}
use Rattle.length_adjust.proofs.Bytes.{own-looked}
use Rattle.length_adjust.proofs.Places.{own-ends, search-marked}
use Rattle.length_adjust.proofs.find.mark_span.Goals as goal

pub clear-requires : goal.clear-requires
clear-requires c = rw (c.places_of-within.ensures, c.span_keys-own.ensures) (own-ends c.args.span c.args.keys.now c.requires.1)

pub find_clusters-looked-requires : goal.find_clusters-looked-requires
find_clusters-looked-requires c =
    let a = c.args in
    let up = ascends-of-ascending a.keys.now c.requires.0 in
    let own = c.span_keys-own.ensures in
    (ap ascending own ∙ ascending-of-ascends (own-ascends a.span up), ap (all _) own ∙ all_true _ (all-weaken (λ key h. le-leb a.span.start (key / 65536) h) (own-from a.span up)))

pub returns : goal.returns
returns c =
    let a = c.args in
    let keys = a.keys.now in
    let up = ascends-of-ascending keys c.requires.0 in
    let same = c.clear.auto.marks in
    let range = rw c.span_keys-own.ensures at c.places_of-within.ensures in
    let ends : c.places_of-within.result.to ≤ length a.marks.now = rw range (own-ends a.span keys c.requires.1) in
    let found-there = rw c.span_keys-own.ensures at c.find_clusters-looked.ensures in
    let marked-there = search-marked a.span up c.clear.new.marks c.places_of-within.result range (rw same ends) c.clear.ensures in
    (found-there.0 ∙ own-looked a.span up, ends, rw found-there.1 (marked-there ∙ ap (λ (n : ℕ). marked (taking_part a.span keys n)) same))
