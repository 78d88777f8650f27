use Rattle.std.proofs.lemmas.Result.{IfOk-weaker}
use Rattle.middleware_chain.proofs.Safe.{flow_safe}
use Rattle.middleware_chain.proofs.applying.apply.Goals as goal

pub returns-clause-safe : goal.returns-clause-safe
returns-clause-safe c =
    IfOk-weaker c.through.result _ _ (λ flow t. flow_safe c.as_slice.result.now c.as_slice-2.result.now c.args.request c.args.peer flow t) c.through.ensures
