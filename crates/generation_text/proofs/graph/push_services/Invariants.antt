use Rattle.std.proofs.Common.{◌≡◌, ◌++◌, drop}
use Rattle.generation_text.specs.Services.{services_lines}
use Rattle.generation_text.proofs.graph.push_services.Given as goal

abbrev pub invariant-loop-service : goal.invariant-loop-service
invariant-loop-service l = l.text.items ++ services_lines l.graph (drop l.service-index l.services) ≡ l.initial.text.items ++ services_lines l.graph l.services
