use Rattle.std.proofs.Common.{map}
use Rattle.std.proofs.Common.{option_map}
use Rattle.consul_kv.specs.Pairs.{pair_view}
use Rattle.consul_kv.proofs.Clashing.{IsLeastFound}
use Rattle.consul_kv.proofs.clash.first_clash.Given as goal

abbrev pub invariant-loop-at : goal.invariant-loop-at
invariant-loop-at l = IsLeastFound l.root (map pair_view l.pairs) l.at (option_map (λ k. k.now) l.least)
