-- `field_checks::utf8::are_expected` meets its contract. Assumes nothing.
use Rattle.std.proofs.Common.{rules, ◌≡◌, ap, ◌∙◌, drop, get_or}
use native.Mathlib.Omega.{arith}
use Rattle.std.specs.List.{list_all}
use Rattle.std.proofs.lemmas.List.{take_rest}
use Rattle.spec.specs.Utf8.{within, continues}
use Rattle.field_checks.proofs.Skips.{expects-none, expects-first}
use Rattle.field_checks.proofs.utf8.are_expected.Goals as goal

pub returns-in-empty : goal.returns-in-empty
returns-in-empty c = λ rest. expects-none c.args.low c.args.high c.args.bytes.now rest (omega arith)

pub returns-then-contains : goal.returns-then-contains
returns-then-contains c =
    let a = c.args in
    let first : c.contains.result ≡ within a.low a.high (get_or a.bytes.now 0 0) = search rules in
    let others : c.all_continue.result ≡ list_all continues (drop 1 a.bytes.now) = c.all_continue.ensures ∙ ap (list_all continues) (take_rest a.bytes.now 1) in
    λ rest. expects-first a.low a.high a.bytes.now rest (omega arith) ∙ rw (← first, c.if-contains.true, others)

pub returns-else-contains : goal.returns-else-contains
returns-else-contains c =
    let a = c.args in
    let first : c.contains.result ≡ within a.low a.high (get_or a.bytes.now 0 0) = search rules in
    λ rest. expects-first a.low a.high a.bytes.now rest (omega arith) ∙ rw (← first, c.if-contains.false)
