use Rattle.std.proofs.Common.{◌≡◌, drop}
use Rattle.consul_kv.specs.Keys.{key_cmp}
use Rattle.consul_kv.proofs.keys.key_order.Given as goal

abbrev pub invariant-loop-i : goal.invariant-loop-i
invariant-loop-i l = key_cmp l.a l.b ≡ key_cmp (drop l.i l.a) (drop l.i l.b)
