use Rattle.worker_loop.proofs.Roundings.{parted_none, parted_went, parted_lost}
use Rattle.std.proofs.Common.{sym, []}
use Rattle.worker_loop.proofs.Servings.{step_over, step_lost, stopping_kept, stopping_lost, desk_of, moved, strayed, unasked_went, unasked_lost, ends_none}
use Rattle.worker_loop.proofs.Stops.{ends_stopped, ends_lost}
use Rattle.conn_service.proofs.Wents.{at_err}
use Rattle.worker_loop.proofs.Losses.{unnoted_none, unnoted_lost, unnoted_alone, alone_lost}
use Rattle.worker_loop.proofs.Accountings.{accounts_over}
use Rattle.worker_loop.proofs.Meetings.{meets_over}
use Rattle.worker_loop.proofs.worker.Worker.stop_key.Goals as goal

pub stop-requires-clause-linked : goal.stop-requires-clause-linked
stop-requires-clause-linked g c = (c.requires.4.attends.tracks c.args.key c.in-Some.conn (sym c.in-Some.ensures.value)).ready.linked

pub stop-requires-clause-tracked : goal.stop-requires-clause-tracked
stop-requires-clause-tracked g c = let r = c.requires.4 in (r.steps c.args.key, (r.attends.tracks c.args.key c.in-Some.conn (sym c.in-Some.ensures.value)).stands)

pub returns-in_err-stop-clause-runs : goal.returns-in_err-stop-clause-runs
returns-in_err-stop-clause-runs g c = λ first base gens why r.
    let w = strayed (c.in_err-stop.ensures.lost (desk_of gens)) in
    (step_lost _ _ c.args.key (sym c.in-Some.ensures.value) w c.in-Some.ensures.updates.changed c.in-Some.ensures.updates.others r, stopping_lost base w why)

pub returns-in_err-stop-clause-unasked : goal.returns-in_err-stop-clause-unasked
returns-in_err-stop-clause-unasked g c = unasked_lost (strayed (c.in_err-stop.ensures.lost (desk_of [])))

pub returns-clause-runs : goal.returns-clause-runs
returns-clause-runs g c = λ first base gens why r.
    let w = moved (c.in_ok-stop.ensures.went (desk_of gens)) in
    (step_over _ _ c.args.key (sym c.in-Some.ensures.value) w (λ x. stopping_kept base w why) (c.is_finished-finished.ensures.served (c.is_finished-finished.ensures.finished.1 c.in_ok-stop.ensures.finished)) c.in-Some.ensures.updates.changed c.in-Some.ensures.updates.others r, stopping_kept base w why)

pub returns-clause-unasked : goal.returns-clause-unasked
returns-clause-unasked g c = unasked_went (moved (c.in_ok-stop.ensures.went (desk_of [])))

pub returns-clause-accounts : goal.returns-clause-accounts
returns-clause-accounts g c = λ base from to.
    accounts_over c.args.self.now.conns c.try_remove.new.self c.args.key c.requires.4.attends (sym c.in-Some.ensures.value) (c.in_ok-stop.ensures.went to) c.in_ok-stop.ensures.finished c.in-Some.ensures.updates.changed c.in-Some.ensures.updates.others

pub returns-clause-met : goal.returns-clause-met
returns-clause-met g c = λ first base.
    meets_over c.args.self.now.conns c.try_remove.new.self c.args.key c.requires.4.attends (sym c.in-Some.ensures.value) (c.in_ok-stop.ensures.went (desk_of [])) c.stop.ensures.closed c.in_ok-stop.ensures.finished c.in-Some.ensures.updates.others

pub returns-in_err-stop-clause-ends : goal.returns-in_err-stop-clause-ends
returns-in_err-stop-clause-ends g c = ends_lost c.args.self.now.conns c.args.key (sym c.in-Some.ensures.value) (c.requires.4.attends.tracks c.args.key c.in-Some.conn (sym c.in-Some.ensures.value)) (strayed (c.in_err-stop.ensures.lost (desk_of [])))

pub returns-clause-ends : goal.returns-clause-ends
returns-clause-ends g c =
    let t = c.requires.4.attends.tracks c.args.key c.in-Some.conn (sym c.in-Some.ensures.value) in
    ends_stopped c.args.self.now.conns c.args.key (sym c.in-Some.ensures.value) t (moved (c.in_ok-stop.ensures.went (desk_of []))) (c.in_ok-stop.ensures.stopped t.ready.is_open)

pub returns-in_default-clause-ends : goal.returns-in_default-clause-ends
returns-in_default-clause-ends g c = ends_none (g.W.World.seen c.args.world.now) c.args.self.now.conns

pub returns-in_default-clause-parted : goal.returns-in_default-clause-parted
returns-in_default-clause-parted g c = parted_none (g.W.World.seen c.args.world.now)

pub returns-in_err-stop-clause-parted : goal.returns-in_err-stop-clause-parted
returns-in_err-stop-clause-parted g c = parted_lost c.stop.ensures.tells (strayed (c.in_err-stop.ensures.lost (desk_of [])))

pub returns-clause-parted : goal.returns-clause-parted
returns-clause-parted g c = parted_went c.stop.ensures.tells (moved (c.in_ok-stop.ensures.went (desk_of [])))

pub returns-in_default-clause-alone : goal.returns-in_default-clause-alone
returns-in_default-clause-alone g c = λ k x ne gx. unnoted_none (g.W.World.seen c.args.world.now) x.client.link

pub returns-in_err-stop-clause-alone : goal.returns-in_err-stop-clause-alone
returns-in_err-stop-clause-alone g c = λ k x ne gx. alone_lost c.args.self.now.conns c.args.key k x c.requires.4.attends (sym c.in-Some.ensures.value) ne gx (strayed (c.in_err-stop.ensures.lost (desk_of [])))

pub returns-clause-alone : goal.returns-clause-alone
returns-clause-alone g c = λ k x ne gx. unnoted_alone c.args.self.now.conns c.args.key k x c.requires.4.attends (sym c.in-Some.ensures.value) ne gx (moved (c.in_ok-stop.ensures.went (desk_of [])))

pub returns-in_err-stop-clause-lost : goal.returns-in_err-stop-clause-lost
returns-in_err-stop-clause-lost g c =
    let t = c.requires.4.attends.tracks c.args.key c.in-Some.conn (sym c.in-Some.ensures.value) in
    at_err c.from_residual.result (c.in-Some.conn, sym c.in-Some.ensures.value, unnoted_lost t (strayed (c.in_err-stop.ensures.lost (desk_of []))))
