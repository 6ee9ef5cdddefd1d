-- `chunk::chunk::listed_chunk` meets its contract. Assumes nothing.
use native.Mathlib.Omega.{arith}
use borrow.Author.Tests.{leb-true}
use Rattle.chunk.proofs.Spans.{lent_length}
use Rattle.chunk.proofs.Merging.{own-few, own-merged, merged-laid}
use Rattle.chunk.proofs.chunk.listed_chunk.Goals as goal

pub list_own-count-requires : goal.list_own-count-requires
list_own-count-requires c =
    let p = c.requires.0 in
    (omega (arith, p.checked.size), own-few p c.args.own, own-few p c.args.own)

pub slice_bounds-rows-end : goal.slice_bounds-rows-end
slice_bounds-rows-end c = omega (arith, c.list_own-count.ensures.0, c.list_own-count.ensures.1, own-few c.requires.0 c.args.own)

pub slice_bounds-glyphs-end : goal.slice_bounds-glyphs-end
slice_bounds-glyphs-end c =
    lent_length c.list_own-count.new.rows (omega (arith, c.list_own-count.ensures.0, c.list_own-count.ensures.1, own-few c.requires.0 c.args.own))

pub invariant_of-chunk : goal.invariant_of-chunk
invariant_of-chunk c = record { merged = own-merged c.requires.0 _ c.requires.1 _ c.list_own-count.ensures.1 c.list_own-count.ensures.2 }

pub chunk_of-requires : goal.chunk_of-requires
chunk_of-requires c = (omega arith, leb-true _ 64 (rw (← c.clusters_at_most.ensures) c.if-clusters_at_most.true))

pub returns-then-clusters_at_most : goal.returns-then-clusters_at_most
returns-then-clusters_at_most c =
    merged-laid (own-merged c.requires.0 _ c.requires.1 _ c.list_own-count.ensures.1 c.list_own-count.ensures.2) c.chunk_of.ensures

pub invariant_of-chunk-2 : goal.invariant_of-chunk-2
invariant_of-chunk-2 c = record { merged = own-merged c.requires.0 _ c.requires.1 _ c.list_own-count.ensures.1 c.list_own-count.ensures.2 }

pub returns : goal.returns
returns c =
    merged-laid (own-merged c.requires.0 _ c.requires.1 _ c.list_own-count.ensures.1 c.list_own-count.ensures.2) c.long_chunk.ensures
