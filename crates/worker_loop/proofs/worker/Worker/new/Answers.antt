use Rattle.worker_loop.proofs.Servings.{attends_none, none_in}
use Rattle.worker_loop.proofs.Accountings.{accounts_none}
use Rattle.worker_loop.proofs.worker.Worker.new.Goals as goal

pub returns-clause-attends : goal.returns-clause-attends
returns-clause-attends c = λ now generations. attends_none now generations c.reserve.new.self (rw c.in_ok-reserve.ensures.rest_kept c.new-conns.ensures.empty)

pub returns-clause-accounts : goal.returns-clause-accounts
returns-clause-accounts c = λ now desk. accounts_none now desk c.reserve.new.self (none_in c.reserve.new.self (rw c.in_ok-reserve.ensures.rest_kept c.new-conns.ensures.empty))

pub returns-clause-empty : goal.returns-clause-empty
returns-clause-empty c = none_in c.reserve.new.self (rw c.in_ok-reserve.ensures.rest_kept c.new-conns.ensures.empty)
