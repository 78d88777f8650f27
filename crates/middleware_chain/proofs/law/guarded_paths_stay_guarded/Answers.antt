use Rattle.middleware_chain.proofs.Guarded.{guarded}
use Rattle.middleware_chain.proofs.law.guarded_paths_stay_guarded.Goals as goal

pub returns : goal.returns
returns c = λ front back ranges unsupported q next peer flow passed out t. guarded front back ranges unsupported q next peer flow passed out t
