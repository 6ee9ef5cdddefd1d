-- The row that a chunk is placed as is no longer than the longest of its counts. Assumes nothing.
use Prim.Native.Nat.{ℕ, ◌≤◌}
use mathlib.Core.Path.{◌≡◌}
use mathlib.Core.List.{[], flat_map}
use native.Mathlib.Omega.{arith}
use lib.ListN.{length}
use Rattle.spec_laws.proofs.Sums.{total}
use Rattle.spec_laws.proofs.RowSize.{Sized, row-length, laid_length, PlacedSized, rows-bytes}
use Rattle.spec.specs.Answer.{ChunkRow, chunk_row_bytes, chunk_row_length}
use Rattle.spec.specs.Layout.{Progress, rows_of}
use Rattle.answer_rows.specs.Chunks.{chunk_row_max}

row-most : {n m k : ℕ} (r : ChunkRow) → Sized n m k r → chunk_row_length r ≤ chunk_row_max m n k
row-most r z = omega (arith, row-length r, z.clusters, z.glyphs, z.spans, z.runs)

-- the bytes of a chunk that is placed alone
pub placed-most : {n m k : ℕ} {before after : Progress} → before.chunks ≡ [] → PlacedSized n m k before after
    → length (flat_map chunk_row_bytes (rows_of after.chunks)) ≤ chunk_row_max m n k
placed-most {after = after} none p =
    let long : total laid_length after.chunks ≡ laid_length p.laid = rw (p.behind, none) (omega arith) in
    omega (arith, long, rows-bytes after.chunks, row-most p.laid.row p.sized)
