-- `clustering::runs::run_length` meets its contract. Assumes nothing.
use Rattle.std.proofs.Common.{rules, drop, ℕ}
use borrow.Author.Tests.{tests}
use Rattle.std.proofs.lemmas.Iterator.{YieldsList-from_slice}
use Rattle.std.proofs.lemmas.Iterator.Search.{position_from_yields_List}
use Rattle.spec.specs.Decode.{glyph_of}
use Rattle.job_rows.specs.Rows.{glyphs_at}
use Rattle.clustering.proofs.Found.{found-map, found-or}
use Rattle.clustering.proofs.FirstRun.{other}
use Rattle.clustering.proofs.runs.run_length.Goals as goal

pub returns : goal.returns
unfolding glyphs_at
returns c =
    let a = c.args in
    found-or _ _ _ c.unwrap_or.ensures
    (found-map (other a.index) (λ (at : ℕ). glyph_of (drop at a.s.now)) a.glyphs.now
    (position_from_yields_List _ _ _ _ c.position.ensures.ran (YieldsList-from_slice a.glyphs.now cc) (λ x b q k. search (rules, tests))))
