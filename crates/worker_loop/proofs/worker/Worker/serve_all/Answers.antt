use Rattle.worker_loop.proofs.Roundings.{worked_none, worked_then}
use Rattle.std.proofs.Common.{◌∙◌, refl, arith}
use Rattle.conn_service.proofs.Lists.{grew_none, grew_twice}
use Rattle.worker_loop.proofs.Servings.{runs_none, runs_attends, past_slots, above_next}
use Rattle.worker_loop.proofs.Comings.{all_settled}
use Rattle.worker_loop.proofs.Places.{held_found, held_vacant, none_from}
use Rattle.worker_loop.proofs.worker.Worker.serve_all.Goals as goal
use Rattle.worker_loop.proofs.worker.Worker.serve_all.Goals.{then-branch, else-branch}

pub loop-key-init : goal.loop-key-init
loop-key-init g c = (λ first base r. r, refl, record { clocked = refl; no_more = refl }, λ k lt. absurd (omega arith), λ k le. past_slots c.args.self.now.conns.slots k (omega (arith, c.capacity-end.ensures.slots, le)), refl, λ base from a. a, omega arith, grew_none (g.S.Shared.desk c.args.shared.now).generations, λ k le. refl, c.len-left.ensures, λ first base m. m, worked_none (g.W.World.seen c.args.world.now))

pub serve_key-requires : goal.serve_key-requires
serve_key-requires g c = runs_attends (c.loop-key.invariant.0 _ _ (runs_none _ _ _ c.requires))

pub returns-in_err-serve_key-clause-turn : goal.returns-in_err-serve_key-clause-turn
returns-in_err-serve_key-clause-turn g c = let t = c.serve_key.ensures.turn in let u = c.loop-key.invariant.2 in record { clocked = t.clocked ∙ u.clocked; no_more = t.no_more ∙ u.no_more }

pub loop-key-preserved : goal.loop-key-preserved
loop-key-preserved g c =
    let t = c.serve_key.ensures.turn in
    let u = c.loop-key.invariant.2 in (
      λ first base r. c.serve_key.ensures.runs first base (c.loop-key.invariant.0 first base r),
      c.serve_key.ensures.links ∙ c.loop-key.invariant.1,
      record { clocked = t.clocked ∙ u.clocked; no_more = t.no_more ∙ u.no_more },
      λ k lt. c.in_ok-serve_key.ensures.settled k (λ ne. c.loop-key.invariant.3 k (omega (arith, lt, ne))),
      λ k le. c.serve_key.ensures.others k (λ same. omega (arith, same, le, c.loop-key-test.true)) ∙ c.loop-key.invariant.4 k le,
      c.serve_key.ensures.stops ∙ c.loop-key.invariant.5,
      λ base from a. c.in_ok-serve_key.ensures.accounts base from (c.loop-key.invariant.6 base from a),
      omega (arith, c.serve_key.ensures.fewer, c.loop-key.invariant.7),
      grew_twice _ _ _ c.loop-key.invariant.8 c.serve_key.ensures.grew,
      above_next c.args.self.now.conns c.loop-key.self.conns c.serve_key.new.self.conns c.loop-key.key c.loop-key.invariant.9 c.serve_key.ensures.others,
      elim c.if-branch.branch [
        | then-branch w ↦ omega (arith, w.left-is, c.loop-key.invariant.10, held_found c.args.self.now.conns c.loop-key.self.conns c.loop-key.key c.in_ok-serve_key.field-0 (c.loop-key.invariant.9 c.loop-key.key (omega arith)) c.in_ok-serve_key.ensures.found w.if-branch.true)
        | else-branch w ↦ omega (arith, w.left-is, c.loop-key.invariant.10, held_vacant c.args.self.now.conns c.loop-key.self.conns c.loop-key.key c.in_ok-serve_key.field-0 (c.loop-key.invariant.9 c.loop-key.key (omega arith)) c.in_ok-serve_key.ensures.found w.if-branch.false)
      ],
      λ first base m. c.in_ok-serve_key.ensures.met first base (c.loop-key.invariant.11 first base m),
      worked_then (g.W.World.seen c.args.world.now) (g.W.World.seen c.loop-key.world) (g.W.World.seen c.serve_key.new.world) c.loop-key.invariant.12 c.serve_key.ensures.worked,
    )

pub returns-clause-settled : goal.returns-clause-settled
returns-clause-settled g c = all_settled c.loop-key.self.conns c.capacity-end.result (λ k lt. c.loop-key.invariant.3 k (omega (arith, lt, c.loop-key-test.false))) c.loop-key.invariant.4

pub returns-then-left-eq0-clause-settled : goal.returns-then-left-eq0-clause-settled
returns-then-left-eq0-clause-settled g c = all_settled c.loop-key.self.conns c.loop-key.key c.loop-key.invariant.3
    (none_from c.args.self.now.conns c.loop-key.self.conns c.loop-key.key (omega (arith, c.loop-key.invariant.10)) c.loop-key.invariant.9)

pub returns-clause-met : goal.returns-clause-met
returns-clause-met g c = c.loop-key.invariant.11

pub returns-then-left-eq0-clause-met : goal.returns-then-left-eq0-clause-met
returns-then-left-eq0-clause-met g c = c.loop-key.invariant.11

pub returns-then-left-eq0-clause-accounts : goal.returns-then-left-eq0-clause-accounts
returns-then-left-eq0-clause-accounts g c = c.loop-key.invariant.6

pub returns-then-left-eq0-clause-grew : goal.returns-then-left-eq0-clause-grew
returns-then-left-eq0-clause-grew g c = c.loop-key.invariant.8

pub returns-clause-accounts : goal.returns-clause-accounts
returns-clause-accounts g c = c.loop-key.invariant.6

pub returns-in_err-serve_key-clause-grew : goal.returns-in_err-serve_key-clause-grew
returns-in_err-serve_key-clause-grew g c = grew_twice _ _ _ c.loop-key.invariant.8 c.serve_key.ensures.grew

pub returns-clause-grew : goal.returns-clause-grew
returns-clause-grew g c = c.loop-key.invariant.8

pub returns-in_err-serve_key-clause-worked : goal.returns-in_err-serve_key-clause-worked
returns-in_err-serve_key-clause-worked g c = worked_then (g.W.World.seen c.args.world.now) (g.W.World.seen c.loop-key.world) (g.W.World.seen c.serve_key.new.world) c.loop-key.invariant.12 c.serve_key.ensures.worked

pub returns-then-left-eq0-clause-worked : goal.returns-then-left-eq0-clause-worked
returns-then-left-eq0-clause-worked g c = c.loop-key.invariant.12

pub returns-clause-worked : goal.returns-clause-worked
returns-clause-worked g c = c.loop-key.invariant.12
