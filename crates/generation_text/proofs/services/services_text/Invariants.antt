use Rattle.std.proofs.Common.{ℕ, List, ◌++◌, length}
use Rattle.generation_text.specs.Texts.{PrintServices}
use Rattle.generation_text.proofs.services.services_text.Given as goal

abbrev pub invariant-loop-service : goal.invariant-loop-service
invariant-loop-service l = (more : List ℕ) → PrintServices l.place l.rest more → PrintServices 0 l.services (l.text.items ++ more)

abbrev pub decreases-loop-service : goal.decreases-loop-service
decreases-loop-service l = length l.rest
