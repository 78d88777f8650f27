use Rattle.worker_loop.proofs.Roundings.{worked_none, worked_went, worked_lost}
use Rattle.std.proofs.Common.{rules, arith, sym, refl}
use Rattle.slab.specs.Slab.{with_value}
use Rattle.conn_service.proofs.Lists.{grew_none}
use Rattle.worker_loop.proofs.Servings.{step_open, step_over, step_lost, lost_stops, unfinished, moved, strayed}
use Rattle.worker_loop.proofs.Accountings.{accounts_open, accounts_over}
use Rattle.worker_loop.proofs.Comings.{went_only, went_turn, lost_turn, settled_key, settled_gone, settled_here, settled_vacant}
use Rattle.worker_loop.proofs.Meetings.{meets_open, meets_over}
use Rattle.worker_loop.proofs.Places.{placed, placed_others, placed_len, others_then}
use Rattle.worker_loop.proofs.worker.Worker.serve_key.Goals as goal

pub serve-requires-clause-ready : goal.serve-requires-clause-ready
serve-requires-clause-ready g c = (c.requires.1.tracks c.args.key c.in-Some.conn.now (sym c.in-Some.ensures.value)).ready

pub serve-requires-clause-tracked : goal.serve-requires-clause-tracked
serve-requires-clause-tracked g c = (c.requires.0 c.args.key, (c.requires.1.tracks c.args.key c.in-Some.conn.now (sym c.in-Some.ensures.value)).stands)

pub returns-in-Err-clause-runs : goal.returns-in-Err-clause-runs
returns-in-Err-clause-runs g c = λ first base.
    step_lost _ _ c.args.key (sym c.in-Some.ensures.value) (strayed c.in-Err.ensures.lost) c.forget.ensures.gone
    (others_then c.args.self.now.conns (with_value c.args.self.now.conns c.args.key c.serve.new.conn) c.forget.new.self.conns c.args.key (placed_others c.args.self.now.conns c.args.key c.serve.new.conn) c.forget.ensures.others)

pub returns-in-Err-clause-stops : goal.returns-in-Err-clause-stops
returns-in-Err-clause-stops g c = lost_stops (strayed c.in-Err.ensures.lost)

pub returns-in-Err-clause-turn : goal.returns-in-Err-clause-turn
returns-in-Err-clause-turn g c = lost_turn c.in-Err.ensures.lost

pub returns-in-Err-clause-grew : goal.returns-in-Err-clause-grew
returns-in-Err-clause-grew g c = (c.in-Err.ensures.lost).1.desk.grew

pub returns-in-Err-clause-fewer : goal.returns-in-Err-clause-fewer
returns-in-Err-clause-fewer g c =
    let less = c.forget.ensures.fewer in
    let same = placed_len c.args.self.now.conns c.args.key c.in-Some.conn.now c.serve.new.conn (sym c.in-Some.ensures.value) in
    omega (arith, less, same)

pub returns-else-is_finished-clause-fewer : goal.returns-else-is_finished-clause-fewer
returns-else-is_finished-clause-fewer g c =
    let same = placed_len c.args.self.now.conns c.args.key c.in-Some.conn.now c.serve.new.conn (sym c.in-Some.ensures.value) in
    omega (arith, same)

pub returns-then-is_finished-clause-fewer : goal.returns-then-is_finished-clause-fewer
returns-then-is_finished-clause-fewer g c =
    let less = c.forget-then-is_finished.ensures.fewer in
    let same = placed_len c.args.self.now.conns c.args.key c.in-Some.conn.now c.serve.new.conn (sym c.in-Some.ensures.value) in
    omega (arith, less, same)

pub returns-else-is_finished-clause-runs : goal.returns-else-is_finished-clause-runs
returns-else-is_finished-clause-runs g c = λ first base.
    step_open _ _ c.args.key (sym c.in-Some.ensures.value) (moved c.in_default-serve.ensures.went)
    (c.if-is_finished.ensures.unended (search rules))
    (unfinished c.serve.new.conn c.if-is_finished.ensures.finished (search rules) c.in_default-serve.ensures.ready)
    c.in_default-serve.ensures.told
    (placed c.args.self.now.conns c.args.key c.in-Some.conn.now c.serve.new.conn (sym c.in-Some.ensures.value))
    (placed_others c.args.self.now.conns c.args.key c.serve.new.conn)

pub returns-else-is_finished-clause-stops : goal.returns-else-is_finished-clause-stops
returns-else-is_finished-clause-stops g c = (moved c.in_default-serve.ensures.went).unasked

pub returns-else-is_finished-clause-turn : goal.returns-else-is_finished-clause-turn
returns-else-is_finished-clause-turn g c = went_turn c.in_default-serve.ensures.went

pub returns-else-is_finished-clause-grew : goal.returns-else-is_finished-clause-grew
returns-else-is_finished-clause-grew g c = (c.in_default-serve.ensures.went).desk.grew

pub returns-else-is_finished-clause-settled : goal.returns-else-is_finished-clause-settled
returns-else-is_finished-clause-settled g c =
    let later = with_value c.args.self.now.conns c.args.key c.serve.new.conn in
    settled_key c.args.self.now.conns later c.args.key c.requires.1 (sym c.in-Some.ensures.value) (went_only c.in_default-serve.ensures.went)
    (placed_others c.args.self.now.conns c.args.key c.serve.new.conn)
    (settled_here later c.args.key (placed c.args.self.now.conns c.args.key c.in-Some.conn.now c.serve.new.conn (sym c.in-Some.ensures.value)) c.in_default-serve.ensures.calm)

pub returns-else-is_finished-clause-accounts : goal.returns-else-is_finished-clause-accounts
returns-else-is_finished-clause-accounts g c = λ base from.
    accounts_open c.args.self.now.conns (with_value c.args.self.now.conns c.args.key c.serve.new.conn) c.args.key c.requires.1 (sym c.in-Some.ensures.value) c.in_default-serve.ensures.went c.in_default-serve.ensures.told
    (placed c.args.self.now.conns c.args.key c.in-Some.conn.now c.serve.new.conn (sym c.in-Some.ensures.value))
    (placed_others c.args.self.now.conns c.args.key c.serve.new.conn)

pub returns-then-is_finished-clause-runs : goal.returns-then-is_finished-clause-runs
returns-then-is_finished-clause-runs g c = λ first base.
    step_over _ _ c.args.key (sym c.in-Some.ensures.value) (moved c.in_default-serve.ensures.went) (λ x. absurd x) (c.if-is_finished.ensures.served (search rules)) c.forget-then-is_finished.ensures.gone
    (others_then c.args.self.now.conns (with_value c.args.self.now.conns c.args.key c.serve.new.conn) c.forget-then-is_finished.new.self.conns c.args.key (placed_others c.args.self.now.conns c.args.key c.serve.new.conn) c.forget-then-is_finished.ensures.others)

pub returns-then-is_finished-clause-stops : goal.returns-then-is_finished-clause-stops
returns-then-is_finished-clause-stops g c = (moved c.in_default-serve.ensures.went).unasked

pub returns-then-is_finished-clause-turn : goal.returns-then-is_finished-clause-turn
returns-then-is_finished-clause-turn g c = went_turn c.in_default-serve.ensures.went

pub returns-then-is_finished-clause-grew : goal.returns-then-is_finished-clause-grew
returns-then-is_finished-clause-grew g c = (c.in_default-serve.ensures.went).desk.grew

pub returns-then-is_finished-clause-settled : goal.returns-then-is_finished-clause-settled
returns-then-is_finished-clause-settled g c =
    settled_key c.args.self.now.conns c.forget-then-is_finished.new.self.conns c.args.key c.requires.1 (sym c.in-Some.ensures.value) (went_only c.in_default-serve.ensures.went)
    (others_then c.args.self.now.conns (with_value c.args.self.now.conns c.args.key c.serve.new.conn) c.forget-then-is_finished.new.self.conns c.args.key (placed_others c.args.self.now.conns c.args.key c.serve.new.conn) c.forget-then-is_finished.ensures.others)
    (settled_gone _ c.forget-then-is_finished.new.self.conns c.args.key c.forget-then-is_finished.ensures.gone)

pub returns-then-is_finished-clause-accounts : goal.returns-then-is_finished-clause-accounts
returns-then-is_finished-clause-accounts g c = λ base from.
    accounts_over c.args.self.now.conns c.forget-then-is_finished.new.self.conns c.args.key c.requires.1 (sym c.in-Some.ensures.value) c.in_default-serve.ensures.went (c.if-is_finished.ensures.finished.0 (search rules)) c.forget-then-is_finished.ensures.gone
    (others_then c.args.self.now.conns (with_value c.args.self.now.conns c.args.key c.serve.new.conn) c.forget-then-is_finished.new.self.conns c.args.key (placed_others c.args.self.now.conns c.args.key c.serve.new.conn) c.forget-then-is_finished.ensures.others)

pub returns-else-is_finished-clause-met : goal.returns-else-is_finished-clause-met
returns-else-is_finished-clause-met g c = λ first base.
    meets_open c.args.self.now.conns (with_value c.args.self.now.conns c.args.key c.serve.new.conn) c.args.key c.requires.1 (sym c.in-Some.ensures.value) c.in_default-serve.ensures.went c.in_default-serve.ensures.leaves c.in_default-serve.ensures.told
    (placed c.args.self.now.conns c.args.key c.in-Some.conn.now c.serve.new.conn (sym c.in-Some.ensures.value))
    (placed_others c.args.self.now.conns c.args.key c.serve.new.conn)

pub returns-then-is_finished-clause-met : goal.returns-then-is_finished-clause-met
returns-then-is_finished-clause-met g c = λ first base.
    let finished = c.if-is_finished.ensures.finished.0 (search rules) in
    meets_over c.args.self.now.conns c.forget-then-is_finished.new.self.conns c.args.key c.requires.1 (sym c.in-Some.ensures.value) c.in_default-serve.ensures.went (c.in_default-serve.ensures.closed finished) finished
    (others_then c.args.self.now.conns (with_value c.args.self.now.conns c.args.key c.serve.new.conn) c.forget-then-is_finished.new.self.conns c.args.key (placed_others c.args.self.now.conns c.args.key c.serve.new.conn) c.forget-then-is_finished.ensures.others)

pub returns-in_default-clause-turn : goal.returns-in_default-clause-turn
returns-in_default-clause-turn g c = record { clocked = refl; no_more = refl }

pub returns-in_default-clause-settled : goal.returns-in_default-clause-settled
returns-in_default-clause-settled g c = settled_vacant c.args.self.now.conns c.args.self.now.conns c.args.key (sym c.in_default.ensures.value) (λ k ne. refl)

pub returns-in_default-clause-grew : goal.returns-in_default-clause-grew
returns-in_default-clause-grew g c = grew_none (g.S.Shared.desk c.args.shared.now).generations

pub returns-in_default-clause-worked : goal.returns-in_default-clause-worked
returns-in_default-clause-worked g c = worked_none (g.W.World.seen c.args.world.now)

pub returns-in-Err-clause-worked : goal.returns-in-Err-clause-worked
returns-in-Err-clause-worked g c = worked_lost (c.requires.1.tracks c.args.key c.in-Some.conn.now (sym c.in-Some.ensures.value)) (strayed c.in-Err.ensures.lost)

pub returns-else-is_finished-clause-worked : goal.returns-else-is_finished-clause-worked
returns-else-is_finished-clause-worked g c = worked_went (c.requires.1.tracks c.args.key c.in-Some.conn.now (sym c.in-Some.ensures.value)) (moved c.in_default-serve.ensures.went)

pub returns-then-is_finished-clause-worked : goal.returns-then-is_finished-clause-worked
returns-then-is_finished-clause-worked g c = worked_went (c.requires.1.tracks c.args.key c.in-Some.conn.now (sym c.in-Some.ensures.value)) (moved c.in_default-serve.ensures.went)
