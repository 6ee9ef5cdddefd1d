-- `field_checks::utf8::character_end` meets its contract: by what its first byte expects, and whether it is there. Assumes nothing.
use Prim.Native.Nat.{◌+◌, ◌<◌}
use mathlib.Core.Path.{◌≡◌, sym, ap, ◌∙◌}
use native.Mathlib.Omega.{arith}
use lib.ListN.{length, take, drop, length-drop}
use Rattle.std.proofs.lemmas.List.{take_rest}
use Rattle.std.proofs.lemmas.Slice.{between_from_start}
use Rattle.field_checks.proofs.Skips.{after-malformed, after-expecting, ends-early, with_rest, past_character}
use Rattle.field_checks.proofs.utf8.character_end.Goals as goal

pub returns-in_err-bytes-in-Expecting : goal.returns-in_err-bytes-in-Expecting
returns-in_err-bytes-in-Expecting c =
    let a = c.args in
    let n = c.in-Expecting.n in
    let rest = drop (a.i + 1) a.text.now in
    let few = rw (take_rest a.text.now (a.i + 1)) at c.in_err-bytes-in-Expecting.ensures.lookup.0 in
    let short : length rest < n = omega (arith, few) in
    rw c.from_residual.ensures
    (after-expecting a.text.now a.i (omega arith) n _ _ (sym c.after_lead.ensures ∙ c.in-Expecting.is) ∙ ends-early n _ _ rest short)

pub returns-in-Malformed : goal.returns-in-Malformed
returns-in-Malformed c = after-malformed c.args.text.now c.args.i (omega arith) (sym c.after_lead.ensures ∙ c.in-Malformed.is)

pub returns-in_ok-bytes-in-Expecting : goal.returns-in_ok-bytes-in-Expecting
returns-in_ok-bytes-in-Expecting c =
    let text = c.args.text.now in
    let i = c.args.i in
    let n = c.from-more.result in
    let there = c.in_ok-bytes-in-Expecting.ensures.lookup.0 in
    let bytes = there.2 ∙ between_from_start _ n ∙ ap (take n) (take_rest text (i + 1)) in
    let many : length c.in_ok-bytes-in-Expecting.bytes.now ≡ n = omega arith in
    let within = rw (take_rest text (i + 1), length-drop) at there.1 in
    past_character text i (i + 1 + n) n _ _ c.are_expected.result (omega arith)
    (rw (← c.from-more.ensures) at (sym c.after_lead.ensures ∙ c.in-Expecting.is))
    (omega arith) (omega (arith, within))
    (rw (with_rest text (i + 1) n bytes, many) at (c.are_expected.ensures (drop (i + 1 + n) text)))
    c.then_some.ensures
