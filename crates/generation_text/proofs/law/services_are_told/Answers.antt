use Rattle.generation_text.proofs.Telling.{told}
use Rattle.generation_text.proofs.law.services_are_told.Goals as goal

pub returns : goal.returns
returns c = λ m r is. told m.services r.graph is.graph m.qualified.1.0
