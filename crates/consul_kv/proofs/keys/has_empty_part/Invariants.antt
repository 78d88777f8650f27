use Rattle.std.proofs.Common.{◌≡◌, true, drop}
use Rattle.consul_kv.specs.Keys.{misses_part}
use Rattle.consul_kv.proofs.keys.has_empty_part.Given as goal

abbrev pub invariant-loop-b : goal.invariant-loop-b
invariant-loop-b l = misses_part true l.path ≡ misses_part l.fresh (drop l.b-index l.path)
