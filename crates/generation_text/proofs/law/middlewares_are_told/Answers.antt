use Rattle.generation_text.proofs.law.middlewares_are_told.Goals as goal

pub returns : goal.returns
returns c = λ m r is. is.chains.names
