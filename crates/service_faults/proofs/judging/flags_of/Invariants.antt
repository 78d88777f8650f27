use Rattle.std.proofs.Common.{◌≡◌, map, take, is_some}
use Rattle.service_faults.proofs.judging.flags_of.Given as goal

abbrev pub invariant-loop-fault : goal.invariant-loop-fault
invariant-loop-fault l = l.flags.items ≡ map is_some (take l.fault-index l.blocked)
