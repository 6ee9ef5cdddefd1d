-- `merge::search::place_of` meets its contract. Assumes nothing.
use Rattle.std.proofs.Common.{rules, drop, take, ℕ, ◌-◌}
use native.Mathlib.Omega.{arith}
use borrow.Author.Tests.{tests}
use lib.Dec.{eqb}
use Rattle.std.proofs.lemmas.Iterator.{YieldsList-from_slice}
use Rattle.std.proofs.lemmas.Iterator.Search.{position_from_yields_List}
use Rattle.spec.specs.Decode.{glyph_of}
use Rattle.merge.proofs.Found.{from-le, place-found}
use Rattle.merge.proofs.search.place_of.Goals as goal

pub offset_bounds-rows-from : goal.offset_bounds-rows-from
offset_bounds-rows-from c = let a = c.args in let held = from-le a.s.now a.rows.now a.count a.index a.from c.requires.0 c.requires.1 in omega arith

pub slice_bounds-rest-count : goal.slice_bounds-rest-count
slice_bounds-rest-count c = let a = c.args in let held = from-le a.s.now a.rows.now a.count a.index a.from c.requires.0 c.requires.1 in omega arith

pub slice_bounds-rest-start : goal.slice_bounds-rest-start
slice_bounds-rest-start c = let a = c.args in let held = from-le a.s.now a.rows.now a.count a.index a.from c.requires.0 c.requires.1 in omega arith

pub returns : goal.returns
returns c =
    let a = c.args in
    let held = from-le a.s.now a.rows.now a.count a.index a.from c.requires.0 c.requires.1 in
    place-found a.s.now a.rows.now a.count a.index a.from held c.requires.1
    (position_from_yields_List (λ (at : ℕ). eqb (glyph_of (drop at a.s.now)).index a.index) _ _ _ c.position.ensures.ran (YieldsList-from_slice (take (a.count - a.from) (drop a.from a.rows.now)) cc)
    (λ x b q k. search (rules, tests)))
    c.unwrap_or.ensures
