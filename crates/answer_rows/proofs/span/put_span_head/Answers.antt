-- `answer_rows::span::put_span_head` meets its contract. Assumes nothing.
use mathlib.Core.Path.{ap, ◌∙◌}
use mathlib.Core.List.{◌++◌, flat_map, append_assoc}
use native.Mathlib.Omega.{arith}
use lib.ListN.{length-append}
use Rattle.spec.specs.Bytes.{bytes, float_bytes}
use Rattle.spec_laws.proofs.Numbers.{length-bytes}
use Rattle.spec_laws.proofs.AnswerLength.{length-floats}
use Rattle.wire.specs.Splice.{splice}
use Rattle.wire.proofs.Splice.{splice-then}
use Rattle.answer_rows.proofs.span.put_span_head.Goals as goal

pub returns : goal.returns
returns c =
    let a = c.args in
    let index = bytes 1 a.k in
    let values = flat_map float_bytes a.values.now in
    let count = bytes 2 a.runs in
    let n₁ = length-bytes 1 a.k in
    let n₂ = length-floats a.values.now in
    let n₃ = length-bytes 2 a.runs in
    let all = splice-then a.out.now a.at index _ values c.put_u8.ensures c.put_floats.ensures (omega arith) (omega arith) in
    splice-then a.out.now a.at (index ++ values) _ count all c.put_number.ensures (simp length-append (omega arith)) (simp length-append (omega arith))
    ∙ ap (splice a.out.now a.at) (append_assoc index values count)
