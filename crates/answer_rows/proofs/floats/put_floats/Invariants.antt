-- `answer_rows::floats::put_floats` meets its contract. Assumes nothing.
use Rattle.spec.specs.Bytes.{float_bytes}
use Rattle.answer_rows.proofs.Puts.{RowsLeft}
use Rattle.answer_rows.proofs.floats.put_floats.Given as goal

abbrev pub invariant-loop-value : goal.invariant-loop-value
invariant-loop-value l = RowsLeft float_bytes l.values l.initial.out l.at l.out l.here l.value-index
