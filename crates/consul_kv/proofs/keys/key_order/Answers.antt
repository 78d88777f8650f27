use Rattle.std.proofs.Common.{◌≡◌, min, length, ◌∙◌, arith}
use Rattle.consul_kv.proofs.Order.{ended}
use Rattle.consul_kv.proofs.keys.key_order.Goals as goal

pub returns : goal.returns
returns c =
    let last : c.loop-i.i ≡ min (length c.args.a.now) (length c.args.b.now) = omega (arith, c.min-shared.ensures, c.loop-i-test.false, c.loop-i.auto.i-end) in
    c.cmp.ensures ∙ ended c.args.a.now c.args.b.now c.loop-i.i last c.loop-i.invariant
