use Rattle.std.proofs.Common.{[], refl}
use Rattle.rule_eval.proofs.Firsts.{err_same}
use Rattle.rule_eval.proofs.compiling.compile.Goals as goal

pub returns-in_err-check-clause-fault : goal.returns-in_err-check-clause-fault
returns-in_err-check-clause-fault g c =
    err_same _ c.from_residual.result c.in_err-check.field-0.0 c.from_residual.ensures.1
    (c.in_err-check.ensures.fault [] tt refl)
