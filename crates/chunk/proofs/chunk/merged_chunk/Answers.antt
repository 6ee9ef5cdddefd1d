-- `chunk::chunk::merged_chunk` meets its contract. Assumes nothing.
use mathlib.Core.Path.{◌≡◌, refl}
use native.Mathlib.Omega.{arith}
use lib.ListN.{take}
use Rattle.std.proofs.Common.{Err, rules}
use Rattle.clustering.proofs.FewClusters.{clusters-at-most}
use Rattle.chunk.proofs.Spans.{lent_length}
use Rattle.chunk.proofs.Merging.{few-glyphs, list-merged, refused-laid, merged-laid}
use Rattle.chunk.proofs.chunk.merged_chunk.Goals as goal

pub process_chunk-requires : goal.process_chunk-requires
process_chunk-requires c =
    let p = c.requires in
    record { size = omega (arith, p.checked.size); few = omega (arith, p.few); own = few-glyphs p }

pub returns-in_err-count : goal.returns-in_err-count
returns-in_err-count c =
    let same : c.from_residual.result ≡ Err c.in_err-count.field-0.0 = search rules in
    rw same (refused-laid c.requires _ c.in_err-count.was c.process_chunk.ensures.1 refl)

-- ---- the merge gave glyphs

pub invariant_of-chunk : goal.invariant_of-chunk
invariant_of-chunk c = record { merged = list-merged c.requires _ c.in_ok-count.was c.process_chunk.ensures }

pub chunk_of-requires : goal.chunk_of-requires
chunk_of-requires c =
    let rows = c.process_chunk.new.rows in
    let n = c.in_ok-count.count in (
      omega arith,
      omega (arith, clusters-at-most c.args.s.now c.args.spans.now (take n rows), lent_length {n = n} rows (omega arith), c.if-count-le-SHORT.true),
    )

pub returns-then-count-le-SHORT : goal.returns-then-count-le-SHORT
returns-then-count-le-SHORT c = merged-laid (list-merged c.requires _ c.in_ok-count.was c.process_chunk.ensures) c.chunk_of.ensures

pub invariant_of-chunk-then-clusters_at_most : goal.invariant_of-chunk-then-clusters_at_most
invariant_of-chunk-then-clusters_at_most c = record { merged = list-merged c.requires _ c.in_ok-count.was c.process_chunk.ensures }

pub returns-then-clusters_at_most : goal.returns-then-clusters_at_most
returns-then-clusters_at_most c = merged-laid (list-merged c.requires _ c.in_ok-count.was c.process_chunk.ensures) c.chunk_of-then-clusters_at_most.ensures

pub invariant_of-chunk-2 : goal.invariant_of-chunk-2
invariant_of-chunk-2 c = record { merged = list-merged c.requires _ c.in_ok-count.was c.process_chunk.ensures }

pub returns : goal.returns
returns c = merged-laid (list-merged c.requires _ c.in_ok-count.was c.process_chunk.ensures) c.long_chunk.ensures
