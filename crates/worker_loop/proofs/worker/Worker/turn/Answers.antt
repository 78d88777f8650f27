use Rattle.worker_loop.proofs.Roundings.{worked_then, worked_clock}
use Rattle.std.proofs.Common.{ap, ◌∙◌, inl, arith, rules}
use Rattle.link_world.specs.Lately.{Lately}
use Rattle.conn_service.proofs.Lists.{grew_twice}
use Rattle.worker_loop.proofs.Servings.{runs_none, runs_attends}
use Rattle.worker_loop.proofs.Accountings.{accounts_clock}
use Rattle.worker_loop.proofs.Comings.{step_clock, clock_stops}
use Rattle.worker_loop.proofs.Meetings.{meets_clock}
use Rattle.worker_loop.proofs.worker.Worker.turn.Goals as goal

pub serve_all-requires : goal.serve_all-requires
serve_all-requires g c = runs_attends (step_clock c.now.result c.now.ensures.seen (runs_none _ _ _ c.requires))

pub returns-in_err-serve_all-clause-runs : goal.returns-in_err-serve_all-clause-runs
returns-in_err-serve_all-clause-runs g c = λ first base r. c.serve_all.ensures.runs first base (step_clock c.now.result c.now.ensures.seen r)

pub returns-in_err-serve_all-clause-stops : goal.returns-in_err-serve_all-clause-stops
returns-in_err-serve_all-clause-stops g c = c.serve_all.ensures.stops ∙ clock_stops c.now.result c.now.ensures.seen

pub loop-init : goal.loop-init
loop-init g c = (tt, tt, λ first base r. c.serve_all.ensures.runs first base (step_clock c.now.result c.now.ensures.seen r), c.serve_all.ensures.turn.clocked ∙ ap (λ (l : Lately). l.clocked) c.now.ensures.lately, c.in_ok-serve_all.ensures.settled, c.serve_all.ensures.stops ∙ clock_stops c.now.result c.now.ensures.seen, c.serve_all.ensures.links, λ base from a. c.in_ok-serve_all.ensures.accounts base from (accounts_clock c.now.result c.now.ensures.seen a), λ most. let le = c.serve_all.ensures.fewer in let same = c.serve_all.ensures.links in omega (arith, most, le, same), c.serve_all.ensures.grew, λ first base m. c.in_ok-serve_all.ensures.met first base (meets_clock c.now.result c.now.ensures.seen m), (worked_then (g.W.World.seen c.args.world.now) (g.W.World.seen c.now.new.self) (g.W.World.seen c.serve_all.new.world) (worked_clock (g.W.World.seen c.args.world.now) (g.W.World.seen c.now.new.self) c.now.result c.now.ensures.seen) c.serve_all.ensures.worked))

pub welcome-requires : goal.welcome-requires
welcome-requires g c = runs_attends (c.loop.invariant.2 _ _ (runs_none _ _ _ c.requires))

pub returns-then-not-branch-clause-done : goal.returns-then-not-branch-clause-done
returns-then-not-branch-clause-done g c = record {
  clocked = c.welcome.ensures.clocked ∙ c.loop.invariant.3;
  arrivals = inl (c.in_ok-welcome.ensures.none (search rules));
  settled = c.in_ok-welcome.ensures.settled c.loop.invariant.4;
}

pub loop-preserved : goal.loop-preserved
loop-preserved g c = (tt, tt, λ first base r. c.welcome.ensures.runs first base (c.loop.invariant.2 first base r), c.welcome.ensures.clocked ∙ c.loop.invariant.3, c.in_ok-welcome.ensures.settled c.loop.invariant.4, c.welcome.ensures.stops ∙ c.loop.invariant.5, c.welcome.ensures.links ∙ c.loop.invariant.6, λ base from a. c.in_ok-welcome.ensures.accounts base from (c.loop.invariant.7 base from a), λ most. let le = c.welcome.ensures.more in let same = c.welcome.ensures.links in let lt = c.if-len-self.false in let len = c.len.ensures in omega (arith, le, same, lt, len), grew_twice _ _ _ c.loop.invariant.9 c.welcome.ensures.grew, λ first base m. c.in_ok-welcome.ensures.met first base (c.loop.invariant.10 first base m), worked_then (g.W.World.seen c.args.world.now) (g.W.World.seen c.loop.world) (g.W.World.seen c.welcome.new.world) c.loop.invariant.11 c.welcome.ensures.worked)

pub returns-then-len-self-clause-accounts : goal.returns-then-len-self-clause-accounts
returns-then-len-self-clause-accounts g c = c.loop.invariant.7

pub returns-then-not-branch-clause-accounts : goal.returns-then-not-branch-clause-accounts
returns-then-not-branch-clause-accounts g c = λ base from a. c.in_ok-welcome.ensures.accounts base from (c.loop.invariant.7 base from a)

pub returns-then-len-self-clause-met : goal.returns-then-len-self-clause-met
returns-then-len-self-clause-met g c = c.loop.invariant.10

pub returns-then-not-branch-clause-met : goal.returns-then-not-branch-clause-met
returns-then-not-branch-clause-met g c = λ first base m. c.in_ok-welcome.ensures.met first base (c.loop.invariant.10 first base m)

pub returns-in_err-welcome-clause-grew : goal.returns-in_err-welcome-clause-grew
returns-in_err-welcome-clause-grew g c = grew_twice _ _ _ c.loop.invariant.9 c.welcome.ensures.grew

pub returns-then-not-branch-clause-grew : goal.returns-then-not-branch-clause-grew
returns-then-not-branch-clause-grew g c = grew_twice _ _ _ c.loop.invariant.9 c.welcome.ensures.grew

pub returns-then-len-self-clause-grew : goal.returns-then-len-self-clause-grew
returns-then-len-self-clause-grew g c = c.loop.invariant.9

pub returns-in_err-serve_all-clause-worked : goal.returns-in_err-serve_all-clause-worked
returns-in_err-serve_all-clause-worked g c = worked_then (g.W.World.seen c.args.world.now) (g.W.World.seen c.now.new.self) (g.W.World.seen c.serve_all.new.world) (worked_clock (g.W.World.seen c.args.world.now) (g.W.World.seen c.now.new.self) c.now.result c.now.ensures.seen) c.serve_all.ensures.worked

pub returns-in_err-welcome-clause-worked : goal.returns-in_err-welcome-clause-worked
returns-in_err-welcome-clause-worked g c = worked_then (g.W.World.seen c.args.world.now) (g.W.World.seen c.loop.world) (g.W.World.seen c.welcome.new.world) c.loop.invariant.11 c.welcome.ensures.worked

pub returns-then-not-branch-clause-worked : goal.returns-then-not-branch-clause-worked
returns-then-not-branch-clause-worked g c = worked_then (g.W.World.seen c.args.world.now) (g.W.World.seen c.loop.world) (g.W.World.seen c.welcome.new.world) c.loop.invariant.11 c.welcome.ensures.worked

pub returns-then-len-self-clause-worked : goal.returns-then-len-self-clause-worked
returns-then-len-self-clause-worked g c = c.loop.invariant.11
