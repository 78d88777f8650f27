use Rattle.std.proofs.Common.{All, take}
use Rattle.service_graph.specs.Only.{HasOnly}
use Rattle.service_graph.proofs.first_form.have_only.Given as goal

abbrev pub invariant-loop-service : goal.invariant-loop-service
invariant-loop-service l = All HasOnly (take l.service-index l.services)
