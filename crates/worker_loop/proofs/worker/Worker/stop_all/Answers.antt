use Rattle.worker_loop.proofs.Roundings.{parted_none, parted_then}
use Rattle.std.proofs.Common.{arith, refl, inl, inr}
use Rattle.worker_loop.proofs.Servings.{unasked_then, unasked_none, gone_next, gone_past, gone_all, past_slots, ends_none, ends_then, within_kept, above_next}
use Rattle.worker_loop.proofs.Accountings.{on_ok}
use Rattle.worker_loop.proofs.Lists.{true_or_false}
use Rattle.worker_loop.proofs.Losses.{unnoted_none, unnoted_next, lost_now, lost_still, one_lost}
use Rattle.worker_loop.proofs.worker.Worker.stop_all.Goals as goal

pub loop-key-init : goal.loop-key-init
loop-key-init g c = (c.requires, λ first base gens why r. (r, why), unasked_none (g.W.World.seen c.args.world.now), λ k lt. absurd (omega arith), λ k le. past_slots c.args.self.now.conns.slots k (omega (arith, c.capacity-end.ensures.slots, le)), λ base from to all a. a, λ k le. refl, ends_none (g.W.World.seen c.args.world.now) c.args.self.now.conns, λ first base all m. m, parted_none (g.W.World.seen c.args.world.now), λ is. absurd (let f : ⊥ = cc in f), λ k x gx. unnoted_none (g.W.World.seen c.args.world.now) x.client.link)

pub loop-key-preserved : goal.loop-key-preserved
loop-key-preserved g c =
    let i = c.loop-key.invariant.0 in
    let e = c.stop_key-told.ensures in
    let next = e.runs i.0 i.1 i.2 i.3 i.4 in (
      (i.0, i.1, i.2, next.1, next.0),
      λ first base gens why r. let was = c.loop-key.invariant.1 first base gens why r in e.runs first base gens was.1 was.0,
      unasked_then (g.W.World.seen c.args.world.now) (g.W.World.seen c.loop-key.world) (g.W.World.seen c.stop_key-told.new.world) c.loop-key.invariant.2 e.unasked,
      gone_next c.loop-key.self.conns c.stop_key-told.new.self.conns c.loop-key.key c.loop-key.invariant.3 e.gone e.others,
      gone_past c.loop-key.self.conns c.stop_key-told.new.self.conns c.loop-key.key c.capacity-end.result c.loop-key-test.true c.loop-key.invariant.4 e.others,
      λ base from to all a. on_ok c.stop_key-told.result (c.are_told-all.ensures.told all) (e.accounts base from to) (c.loop-key.invariant.5 base from to (c.are_told-all.ensures.all all) a),
      above_next c.args.self.now.conns c.loop-key.self.conns c.stop_key-told.new.self.conns c.loop-key.key c.loop-key.invariant.6 e.others,
      ends_then (g.W.World.seen c.args.world.now) (g.W.World.seen c.loop-key.world) (g.W.World.seen c.stop_key-told.new.world) c.args.self.now.conns c.loop-key.self.conns (within_kept c.args.self.now.conns c.loop-key.self.conns c.loop-key.key c.loop-key.invariant.3 c.loop-key.invariant.6) c.loop-key.invariant.7 e.ends,
      λ first base all m. on_ok c.stop_key-told.result (c.are_told-all.ensures.told all) (e.met first base) (c.loop-key.invariant.8 first base (c.are_told-all.ensures.all all) m),
      parted_then (g.W.World.seen c.args.world.now) (g.W.World.seen c.loop-key.world) (g.W.World.seen c.stop_key-told.new.world) c.loop-key.invariant.9 e.parted,
      λ is. elim (true_or_false c.loop-key.all) [
        | inl told ↦ lost_now (g.W.World.seen c.args.world.now) (g.W.World.seen c.loop-key.world) (g.W.World.seen c.stop_key-told.new.world) c.args.self.now.conns c.loop-key.self.conns c.loop-key.key c.stop_key-told.result (c.are_told-all.ensures.lost is told) e.lost (c.loop-key.invariant.6 c.loop-key.key (omega arith)) c.loop-key.invariant.11
        | inr before ↦ lost_still (g.W.World.seen c.args.world.now) (g.W.World.seen c.loop-key.world) (g.W.World.seen c.stop_key-told.new.world) c.args.self.now.conns c.loop-key.self.conns c.loop-key.key c.requires.4.attends e.ends c.loop-key.invariant.3
            (within_kept c.args.self.now.conns c.loop-key.self.conns c.loop-key.key c.loop-key.invariant.3 c.loop-key.invariant.6) (c.loop-key.invariant.10 before)
      ],
      unnoted_next (g.W.World.seen c.args.world.now) (g.W.World.seen c.loop-key.world) (g.W.World.seen c.stop_key-told.new.world) c.loop-key.self.conns c.stop_key-told.new.self.conns c.loop-key.key c.loop-key.invariant.11 e.alone e.gone e.others,
    )

pub returns-clause-runs : goal.returns-clause-runs
returns-clause-runs g c = λ first base gens why r. (c.loop-key.invariant.1 first base gens why r).0

pub returns-clause-ended : goal.returns-clause-ended
returns-clause-ended g c = gone_all c.loop-key.self.conns c.capacity-end.result (λ k lt. c.loop-key.invariant.3 k (omega (arith, lt, c.loop-key-test.false))) c.loop-key.invariant.4

pub returns-clause-met : goal.returns-clause-met
returns-clause-met g c = c.loop-key.invariant.8

pub returns-clause-accounts : goal.returns-clause-accounts
returns-clause-accounts g c = c.loop-key.invariant.5

pub returns-clause-parted : goal.returns-clause-parted
returns-clause-parted g c = c.loop-key.invariant.9

pub returns-clause-lost : goal.returns-clause-lost
returns-clause-lost g c = λ is. one_lost (g.W.World.seen c.args.world.now) (g.W.World.seen c.loop-key.world) c.args.self.now.conns c.loop-key.key (c.loop-key.invariant.10 is)
