-- A span's letter or word spacing. Definitions only.
use Rattle.std.specs.Prelude.{Float}
use Rattle.spec.specs.declared.Span.{Span}
use Rattle.spacing.specs.declared.spans.Spacing.{Spacing}
use Rattle.spacing.specs.declared.spans.Spacing.TheVariants.{Letter, Word}

abbrev pub spacing_of : Spacing → Span → Float
spacing_of Letter s = s.letter
spacing_of Word s = s.word
