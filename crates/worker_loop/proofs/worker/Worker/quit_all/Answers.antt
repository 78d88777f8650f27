use Rattle.std.proofs.Common.{◌∙◌, refl, arith}
use Rattle.worker_loop.proofs.Roundings.{worked_none, worked_then}
use Rattle.worker_loop.proofs.Servings.{runs_none, runs_attends, gone_next, gone_past, gone_all, past_slots}
use Rattle.worker_loop.proofs.worker.Worker.quit_all.Goals as goal

pub loop-key-init : goal.loop-key-init
loop-key-init g c = (c.requires, λ first base gens r. r, λ k lt. absurd (omega arith), λ k le. past_slots c.args.self.now.conns.slots k (omega (arith, c.capacity-end.ensures.slots, le)), worked_none (g.W.World.seen c.args.world.now), refl)

pub loop-key-preserved : goal.loop-key-preserved
loop-key-preserved g c =
    let i = c.loop-key.invariant.0 in
    let e = c.quit_key.ensures in
    let next = e.runs _ _ i.0 (runs_none _ i.0 _ i.1) in (
      (i.0, runs_attends next),
      λ first base gens r. e.runs first base gens (c.loop-key.invariant.1 first base gens r),
      gone_next c.loop-key.self.conns c.quit_key.new.self.conns c.loop-key.key c.loop-key.invariant.2 e.gone e.others,
      gone_past c.loop-key.self.conns c.quit_key.new.self.conns c.loop-key.key c.capacity-end.result c.loop-key-test.true c.loop-key.invariant.3 e.others,
      worked_then (g.W.World.seen c.args.world.now) (g.W.World.seen c.loop-key.world) (g.W.World.seen c.quit_key.new.world) c.loop-key.invariant.4 e.worked,
      e.stops ∙ c.loop-key.invariant.5,
    )

pub returns-clause-runs : goal.returns-clause-runs
returns-clause-runs g c = c.loop-key.invariant.1

pub returns-clause-ended : goal.returns-clause-ended
returns-clause-ended g c = gone_all c.loop-key.self.conns c.capacity-end.result (λ k lt. c.loop-key.invariant.2 k (omega (arith, lt, c.loop-key-test.false))) c.loop-key.invariant.3

pub returns-clause-worked : goal.returns-clause-worked
returns-clause-worked g c = c.loop-key.invariant.4

pub returns-clause-stops : goal.returns-clause-stops
returns-clause-stops g c = c.loop-key.invariant.5
