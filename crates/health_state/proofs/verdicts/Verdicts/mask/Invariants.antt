use Rattle.std.proofs.Common.{◌≡◌, map, drop}
use Rattle.health_state.specs.Marks.{flags_mask}
use Rattle.health_state.proofs.verdicts.Verdicts.mask.Given as goal

abbrev pub invariant-loop-i : goal.invariant-loop-i
invariant-loop-i l = l.mask ≡ flags_mask (map (λ server. server.up) (drop l.i l.self-inside.servers.items))
