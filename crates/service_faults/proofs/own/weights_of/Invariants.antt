use Rattle.std.proofs.Common.{◌≡◌, map, take}
use Rattle.service_faults.specs.Own.{weight_of}
use Rattle.service_faults.proofs.own.weights_of.Given as goal

abbrev pub invariant-loop-server : goal.invariant-loop-server
invariant-loop-server l = l.weights.items ≡ map weight_of (take l.server-index l.servers)
