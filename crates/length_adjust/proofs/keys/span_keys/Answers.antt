-- `length_adjust::keys::span_keys` meets its contract. Assumes nothing.
use mathlib.Core.Path.{ap, ◌∙◌}
use Rattle.wire.proofs.Places.{take_rest}
use Rattle.sort.specs.Sorted.{ascending}
use Rattle.sort.proofs.Ascending.{ascends-of-ascending, ascending-of-ascends, drop-ascends}
use Rattle.length_adjust.proofs.keys.span_keys.Goals as goal

pub first_key-end-requires : goal.first_key-end-requires
first_key-end-requires c =
    let keys = c.args.keys.now in
    let start = c.first_key-start.result in
    ap ascending (take_rest start keys) ∙ ascending-of-ascends (drop-ascends start (ascends-of-ascending keys c.requires))

pub returns : goal.returns
returns c = rw (c.first_key-end.ensures.0, take_rest c.first_key-start.result c.args.keys.now, c.first_key-start.ensures.0)
