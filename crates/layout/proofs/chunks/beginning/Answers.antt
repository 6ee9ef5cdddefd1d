-- `layout::chunks::beginning` meets its contract. Assumes nothing.
use mathlib.Core.Path.{refl}
use mathlib.Core.List.{flat_map}
use lib.Ieee.{of_bits}
use Rattle.chunk.specs.Steps.{progress_after, written_bytes}
use Rattle.layout.proofs.chunks.beginning.Goals as goal

pub returns : goal.returns
unfolding of_bits progress_after written_bytes flat_map
returns c = refl
