-- `merge::chunk::merge_many` meets its contract. Assumes nothing.
use Rattle.merge.proofs.Places.{index-known}
use Rattle.merge.proofs.chunk.merge_many.Goals as goal

pub merge_glyphs-requires : goal.merge_glyphs-requires
merge_glyphs-requires c =
    (c.requires, rw c.build_index.ensures (index-known _ _))

pub returns : goal.returns
returns c = c.merge_glyphs.ensures
