use Rattle.std.proofs.Common.{Option, length}
use Rattle.service_faults.specs.Own.{IsUrlState}
use Rattle.service_graph.specs.declared.url.UrlFault.{UrlFault}
use Rattle.service_faults.proofs.own.url_fault.Given as goal

abbrev pub invariant-loop-server : goal.invariant-loop-server
invariant-loop-server l = (state : Option UrlFault) → IsUrlState l.rest state → IsUrlState l.servers state

abbrev pub decreases-loop-server : goal.decreases-loop-server
decreases-loop-server l = length l.rest
