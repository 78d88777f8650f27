use Rattle.std.proofs.lemmas.Result.{IfOk-weaker}
use Rattle.middleware_chain.proofs.Safe.{reply_safe}
use Rattle.middleware_chain.proofs.replying.apply_reply.Goals as goal

pub returns-clause-safe : goal.returns-clause-safe
returns-clause-safe c =
    IfOk-weaker c.back_through.result _ _ (λ reply t. reply_safe c.as_slice.result.now c.as_slice-2.result.now c.args.reply reply t) c.back_through.ensures
