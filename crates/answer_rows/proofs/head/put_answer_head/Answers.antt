-- `answer_rows::head::put_answer_head` meets its contract. Assumes nothing.
use Prim.Native.Nat.{◌-◌}
use mathlib.Core.Path.{refl, ◌∙◌}
use mathlib.Core.List.{◌++◌}
use native.Mathlib.Omega.{arith}
use lib.ListN.{length-append}
use Rattle.spec.specs.Bytes.{bytes}
use Rattle.spec.specs.Answer.{answer_version, answer_count_bytes}
use Rattle.spec_laws.proofs.Numbers.{length-bytes}
use Rattle.answer_rows.proofs.Puts.{put-start, put-turn}
use Rattle.answer_rows.proofs.head.put_answer_head.Goals as goal

pub returns : goal.returns
returns c =
    let a = c.args in
    let room = c.requires.0 in
    let rest = bytes 1 answer_version ++ bytes answer_count_bytes a.count in
    let p₀ = put-start {old = a.out.now} {at = 0} {bs = bytes 4 (a.size - 4) ++ rest} (simp (length-append, length-bytes) room) in
    let p₁ = put-turn p₀ (bytes 4 (a.size - 4)) rest {here' = 4} refl c.put_number.ensures (simp length-bytes (omega arith)) in
    let p₂ = put-turn p₁ (bytes 1 answer_version) (bytes answer_count_bytes a.count) {here' = 5} refl c.put_u8.ensures (simp length-bytes (omega arith)) in
    c.put_u8-2.ensures ∙ p₂.whole
