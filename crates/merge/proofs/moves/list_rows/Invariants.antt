-- `merge::moves::list_rows` meets its contract. The loop's invariant: the glyphs listed, then those still to be listed, are all. Assumes nothing.
use Prim.Native.Nat.{ℕ, ◌+◌, ◌*◌}
use mathlib.Core.Path.{◌≡◌}
use mathlib.Core.List.{List}
use lib.ListN.{drop}
use Rattle.spec.specs.Bytes.{rows as records}
use Rattle.spec.specs.Decode.{glyph_of, glyph_bytes}
use Rattle.merge.proofs.Moved.{listed}
use Rattle.merge.proofs.moves.list_rows.Given as goal

abbrev pub invariant-loop-k : goal.invariant-loop-k
invariant-loop-k l =
    (s : List ℕ) → listed s l.row-items l.own.count l.k (l.own.first + l.k * 25) ≡ records (λ r. glyph_bytes) glyph_of l.own.count (drop l.own.first s)
