use Rattle.std.proofs.Common.{◌≡◌, ◌++◌, drop}
use Rattle.service_faults.specs.Faults.{faults_from}
use Rattle.service_faults.specs.Blocked.{judgement}
use Rattle.service_faults.proofs.faults.list_faults.Given as goal

abbrev pub invariant-loop-at : goal.invariant-loop-at
invariant-loop-at l = l.faults ++ faults_from (judgement l.links l.heights l.blocked) l.at (drop l.at l.services) ≡ faults_from (judgement l.links l.heights l.blocked) 0 l.services
