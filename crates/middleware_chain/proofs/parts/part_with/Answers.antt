use Rattle.std.proofs.Common.{rules}
use Rattle.std.proofs.lemmas.Result.{IfOk-weaker}
use Rattle.middleware_chain.proofs.Parted.{stage_is_part}
use Rattle.middleware_chain.proofs.parts.part_with.Goals as goal

pub returns-in_default-clause-part : goal.returns-in_default-clause-part
returns-in_default-clause-part g c =
    IfOk-weaker c.stage_part.result _ _ (λ part is. stage_is_part c.args.entries.now c.args.left c.args.entry.now part (search rules) is) c.stage_part.ensures.part

pub returns-in_ok-members-in-Chain-clause-part : goal.returns-in_ok-members-in-Chain-clause-part
returns-in_ok-members-in-Chain-clause-part g c = (c.in-Chain.names, c.in-Chain.is, rw c.as_slice.ensures at c.in_ok-members-in-Chain.ensures)
