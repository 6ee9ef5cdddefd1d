-- `chunk::tables::long_chunk` meets its contract: its clusters are few enough for the tables. Assumes nothing.
use native.Mathlib.Omega.{arith}
use borrow.Author.Tests.{leb-true}
use Rattle.clustering.proofs.FewClusters.{clusters-at-most}
use Rattle.chunk.proofs.tables.long_chunk.Goals as goal

pub chunk_of-requires : goal.chunk_of-requires
chunk_of-requires c =
    let a = c.args.chunk in
    (omega arith, omega (arith, clusters-at-most a.s.now a.spans.now a.glyphs.now))

pub chunk_of-requires-then-clusters_at_most : goal.chunk_of-requires-then-clusters_at_most
chunk_of-requires-then-clusters_at_most c =
    (omega arith, leb-true _ 256 (rw (← c.clusters_at_most.ensures) c.if-clusters_at_most.true))

pub chunk_of-requires-2 : goal.chunk_of-requires-2
chunk_of-requires-2 c =
    let a = c.args.chunk in
    (omega arith, omega (arith, clusters-at-most a.s.now a.spans.now a.glyphs.now, a.merged.few))
