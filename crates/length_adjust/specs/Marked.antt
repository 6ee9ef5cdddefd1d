-- Where the marked clusters stand. Definitions only.
use Rattle.std.specs.Prelude.{ℕ, List}
use Rattle.length_adjust.specs.declared.marked.Marked.{Marked}
use Rattle.length_adjust.specs.Marks.{marked_in}

abbrev pub places : Marked → List ℕ
places m = marked_in m.within m.marks.now
