use Rattle.std.proofs.Common.{Option, sym, subst}
use Rattle.std.proofs.lemmas.Result.{IfOk-weaker}
use Rattle.middleware_chain.specs.Folds.{BackThrough}
use Rattle.middleware_chain.specs.declared.chain.Chain.{Chain}
use Rattle.runtime_config.specs.Linked.{stages_in}
use Rattle.runtime_config.proofs.config.RuntimeConfig.apply_reply.Goals as goal

pub returns-clause-through : goal.returns-clause-through
returns-clause-through c =
    IfOk-weaker c.apply_reply.result _ _
    (λ reply t. let P : Option Chain → Type 0 = λ link. BackThrough (stages_in c.args.self.now.chains link) c.args.reply reply in subst P (sym c.chain_at.ensures.there) t)
    c.apply_reply.ensures.through
