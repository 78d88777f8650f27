use Rattle.back_machine.proofs.ExchangeLemmas.{same_received}
use Rattle.back_machine.proofs.laws.cuts_do_not_matter.Goals as goal

pub returns-clause-reply : goal.returns-clause-reply
returns-clause-reply c = λ message message' method took took' gave content content' ended ended' failed failed' a b x y.
    (same_received method gave content content' a.reply b.reply x.received y.received).0

pub returns-clause-content : goal.returns-clause-content
returns-clause-content c = λ message message' method took took' gave content content' ended ended' failed failed' a b x y.
    (same_received method gave content content' a.reply b.reply x.received y.received).1
