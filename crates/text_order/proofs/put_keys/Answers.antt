use mathlib.Core.Path.{sym, ap, ◌∙◌}
use native.Mathlib.Omega.{arith}
use Rattle.std.proofs.Common.{◌≡◌, ℕ, ◌+◌, ◌*◌, length, rules}
use Rattle.spec.specs.Arithmetic.{indexes}
use Rattle.spec.specs.Cluster.{rounded}
use Rattle.text_order.proofs.Keys.{blank, indexes-length, indexes-at, index-small, key-turn, keys-done}
use Rattle.text_order.proofs.put_keys.Goals as goal

pub overflow_mul-order : goal.overflow_mul-order
overflow_mul-order c =
    let small = index-small c.args.clusters.now c.requires.indexes c.loop-i.i blank (omega arith) in
    search rules

pub overflow_add-order : goal.overflow_add-order
overflow_add-order c =
    let small = index-small c.args.clusters.now c.requires.indexes c.loop-i.i blank (omega arith) in
    search rules

pub loop-i-preserved : goal.loop-i-preserved
loop-i-preserved c =
    let cs = c.args.clusters.now in
    let l = c.loop-i in
    key-turn (indexes rounded cs) l.order l.i _ (omega arith) (omega (arith, indexes-length cs))
    (ap (λ (k : ℕ). k * 65536 + l.i) (sym (indexes-at cs l.i blank (omega arith)))) l.invariant

pub returns : goal.returns
returns c =
    let cs = c.args.clusters.now in
    let e : c.loop-i.i ≡ length cs = omega arith in
    (rw e at c.loop-i.invariant) ∙ keys-done (indexes rounded cs) (length cs) (omega (arith, indexes-length cs))
