use Rattle.std.proofs.Common.{◌≡◌, length}
use Rattle.service_faults.specs.Blocked.{AreBlockedBelow}
use Rattle.service_faults.proofs.judging.all_blocked.Given as goal

abbrev pub invariant-loop-service : goal.invariant-loop-service
invariant-loop-service l = record { long : length l.blocked.items ≡ l.service-index; below : AreBlockedBelow l.links l.services l.blocked.items l.service-index }
