use lib.ListN.{get_or}
use lib.Ieee.{nan}
use native.Mathlib.Omega.{arith}
use Rattle.spec.specs.Bytes.{float_bytes}
use Rattle.spec_laws.proofs.Numbers.{length-float_bytes}
use Rattle.spec_laws.proofs.AnswerLength.{length-floats}
use Rattle.answer_rows.proofs.Puts.{put-start, row_room, row-turn, row_done}
use Rattle.answer_rows.proofs.floats.put_floats.Goals as goal

pub loop-value-init : goal.loop-value-init
loop-value-init c = put-start (omega (arith, length-floats c.args.values.now))

pub put_f32-requires : goal.put_f32-requires
put_f32-requires c =
    let l = c.loop-value in
    let vs = c.args.values.now in
    omega (arith, length-float_bytes (get_or vs l.value-index nan), row_room float_bytes vs l.value-index l.invariant nan (omega arith))

pub loop-value-preserved : goal.loop-value-preserved
loop-value-preserved c =
    let l = c.loop-value in
    let vs = c.args.values.now in
    row-turn float_bytes vs l.value-index l.invariant nan (omega arith) c.put_f32.ensures (omega (arith, length-float_bytes (get_or vs l.value-index nan)))

pub returns : goal.returns
returns c =
    let l = c.loop-value in
    (row_done float_bytes c.args.values.now l.value-index l.invariant (omega arith)).0
