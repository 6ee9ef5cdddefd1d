-- `chunk::tables::chunk_of` meets its contract. Assumes nothing.
use native.Mathlib.Omega.{arith}
use Rattle.chunk.proofs.tables.chunk_of.Goals as goal

pub whole_as_slice-layout_merged : goal.whole_as_slice-layout_merged
whole_as_slice-layout_merged g c = omega (arith, c.requires.0)

pub whole_as_slice-layout_merged-2 : goal.whole_as_slice-layout_merged-2
whole_as_slice-layout_merged-2 g c = omega (arith, c.requires.0)

pub whole_as_slice-layout_merged-3 : goal.whole_as_slice-layout_merged-3
whole_as_slice-layout_merged-3 g c = omega (arith, c.requires.0)
