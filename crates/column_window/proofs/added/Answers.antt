-- `column_window::added` meets its contract. Assumes nothing.
use Rattle.std.proofs.Common.{sym, ap, ◌∙◌, subst}
use Rattle.std.proofs.lemmas.Result.{err_from_is_err_and}
use lib.Dec.{T}
use lib.Ieee.{binary32, of_bits}
use Rattle.column_window.specs.Words.{added_words}
use Rattle.column_window.proofs.Stored.{place-within}
use Rattle.column_window.proofs.Answers.{adds-when, not-added, is-added}
use Rattle.column_window.proofs.added.Goals as goal

pub returns-in_err-check_label : goal.returns-in_err-check_label
returns-in_err-check_label c =
    let p = err_from_is_err_and c.from_residual.result c.from_residual.ensures.1 in
    rw (p.1, p.2) (not-added c.args.window.now c.args.extent c.in_err-check_label.field-0.0 c.in_err-check_label.ensures)

pub put_label-requires : goal.put_label-requires
put_label-requires c = (adds-when c.args.window.now c.args.extent (sym c.in_ok-check_label.ensures)).1

pub width_pattern-requires : goal.width_pattern-requires
width_pattern-requires c =
    let ready = (adds-when c.args.window.now c.args.extent (sym c.in_ok-check_label.ensures)).1 in
    place-within c.args.window.now c.pattern.result ready c.put_label.ensures c.put_label.auto.window

pub returns : goal.returns
returns c =
    is-added c.args.window.now c.args.extent (subst T (sym c.well_formed.1.0.1) tt) (sym c.in_ok-check_label.ensures)
    (c.put_label.ensures ∙ ap (added_words c.args.window.now) c.pattern.ensures) (c.f32_of.ensures ∙ ap (of_bits binary32) c.width_pattern.ensures)
