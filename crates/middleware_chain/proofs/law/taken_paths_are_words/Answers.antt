use Rattle.middleware_chain.proofs.Taken.{taken_word}
use Rattle.middleware_chain.proofs.law.taken_paths_are_words.Goals as goal

pub returns : goal.returns
returns c = λ method target version lines peer q takes. taken_word method target version lines peer q takes
