use Rattle.worker_loop.proofs.Roundings.{worked_then}
use Rattle.conn_service.proofs.Lists.{grew_none}
use Rattle.worker_loop.proofs.Servings.{runs_none, runs_attends}
use Rattle.worker_loop.proofs.worker.Worker.welcome.Goals as goal

pub serve_key-requires : goal.serve_key-requires
serve_key-requires g c = runs_attends (c.accept.ensures.runs _ _ _ (runs_none _ _ _ c.requires))

pub returns-clause-settled : goal.returns-clause-settled
returns-clause-settled g c = λ all k. c.in_ok-serve_key.ensures.settled k (λ ne. let did = rw c.in-Some.is at c.in_ok-key.ensures.settled in did all k ne)

pub returns-in_default-clause-accounts : goal.returns-in_default-clause-accounts
returns-in_default-clause-accounts g c = λ base from. c.in_ok-key.ensures.accounts base from (g.S.Shared.desk c.args.shared.now)

pub returns-clause-accounts : goal.returns-clause-accounts
returns-clause-accounts g c = λ base from a. c.in_ok-serve_key.ensures.accounts base from (c.in_ok-key.ensures.accounts base from (g.S.Shared.desk c.args.shared.now) a)

pub returns-in_default-clause-met : goal.returns-in_default-clause-met
returns-in_default-clause-met g c = λ first base. c.in_ok-key.ensures.met first base

pub returns-clause-met : goal.returns-clause-met
returns-clause-met g c = λ first base m. c.in_ok-serve_key.ensures.met first base (c.in_ok-key.ensures.met first base m)

pub returns-in_err-key-clause-grew : goal.returns-in_err-key-clause-grew
returns-in_err-key-clause-grew g c = grew_none (g.S.Shared.desk c.args.shared.now).generations

pub returns-in_default-clause-grew : goal.returns-in_default-clause-grew
returns-in_default-clause-grew g c = grew_none (g.S.Shared.desk c.args.shared.now).generations

pub returns-clause-worked : goal.returns-clause-worked
returns-clause-worked g c = worked_then (g.W.World.seen c.args.world.now) (g.W.World.seen c.accept.new.world) (g.W.World.seen c.serve_key.new.world) c.accept.ensures.worked c.serve_key.ensures.worked

pub returns-in_err-serve_key-clause-worked : goal.returns-in_err-serve_key-clause-worked
returns-in_err-serve_key-clause-worked g c = worked_then (g.W.World.seen c.args.world.now) (g.W.World.seen c.accept.new.world) (g.W.World.seen c.serve_key.new.world) c.accept.ensures.worked c.serve_key.ensures.worked
