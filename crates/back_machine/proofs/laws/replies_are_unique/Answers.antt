use Rattle.back_machine.proofs.ReplyLemmas.{one_reply, reply_stays, never_more}
use Rattle.back_machine.proofs.laws.replies_are_unique.Goals as goal

pub returns-clause-one : goal.returns-clause-one
returns-clause-one c = λ method gave a b n m x y. one_reply method gave a b n m x y

pub returns-clause-stays : goal.returns-clause-stays
returns-clause-stays c = λ method gave more a n x. reply_stays method gave more a n x

pub returns-clause-never : goal.returns-clause-never
returns-clause-never c = λ method gave more x. never_more method gave more x
