-- `column_window::block::put_label` meets its contract. Assumes nothing.
use Rattle.std.proofs.Common.{◌≡◌, ℕ, ◌+◌, ◌∷◌, max, set, rules, ap, ◌∙◌, arith}
use Rattle.column_window.specs.Words.{span_word, count_word, place_word, best_word, block_words}
use Rattle.column_window.proofs.Stored.{heads, moves, tails-put}
use Rattle.column_window.proofs.block.put_label.Goals as goal

pub returns-then-at-span : goal.returns-then-at-span
returns-then-at-span c =
    let b = c.args.window.now in
    let x = c.args.x in
    let higher : c.max.result ≡ max (best_word b) x = search rules in
    heads b (place_word b) x (count_word b + 1) (place_word b + 1) c.max.result (omega arith)
    ∙ ap (λ (k : ℕ). span_word b ∷ (count_word b + 1) ∷ (place_word b + 1) ∷ k ∷ set (block_words b) (place_word b) x) higher ∙ moves b x c.if-at-span.true

pub returns : goal.returns
returns c =
    tails-put c.args.window.now c.args.x (omega arith) c.if-at-span.false c.make_tails.ensures
