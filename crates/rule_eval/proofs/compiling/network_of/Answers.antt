use Rattle.std.proofs.Common.{refl}
use Rattle.rule_eval.proofs.compiling.network_of.Goals as goal

pub returns-in-None-clause-fault : goal.returns-in-None-clause-fault
returns-in-None-clause-fault c =
    let none = rw c.as_slice.ensures at c.in-None.ensures.reads in
    (refl, λ h. none h.0 h.1.0 h.1.1)
