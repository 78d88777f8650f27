use Rattle.std.proofs.Common.{sym, []}
use Rattle.worker_loop.proofs.Roundings.{worked_none, worked_went, worked_lost}
use Rattle.worker_loop.proofs.Servings.{step_over, step_lost, desk_of, moved, strayed}
use Rattle.worker_loop.proofs.worker.Worker.quit_key.Goals as goal

pub quit-requires-clause-linked : goal.quit-requires-clause-linked
quit-requires-clause-linked g c = (c.requires.1.1.tracks c.args.key c.in-Some.conn (sym c.in-Some.ensures.value)).ready.linked

pub quit-requires-clause-tracked : goal.quit-requires-clause-tracked
quit-requires-clause-tracked g c = (c.requires.1.0 c.args.key, (c.requires.1.1.tracks c.args.key c.in-Some.conn (sym c.in-Some.ensures.value)).stands)

pub returns-in_err-quit-clause-runs : goal.returns-in_err-quit-clause-runs
returns-in_err-quit-clause-runs g c = λ first base gens r. step_lost _ _ c.args.key (sym c.in-Some.ensures.value) (strayed (c.in_err-quit.ensures.lost (desk_of gens))) c.in-Some.ensures.updates.changed c.in-Some.ensures.updates.others r

pub returns-clause-runs : goal.returns-clause-runs
returns-clause-runs g c = λ first base gens r. step_over _ _ c.args.key (sym c.in-Some.ensures.value) (moved (c.in_ok-quit.ensures.went (desk_of gens))) (λ x. absurd x) (c.is_finished-finished.ensures.served (c.is_finished-finished.ensures.finished.1 c.in_ok-quit.ensures.finished)) c.in-Some.ensures.updates.changed c.in-Some.ensures.updates.others r

pub returns-in_default-clause-worked : goal.returns-in_default-clause-worked
returns-in_default-clause-worked g c = worked_none (g.W.World.seen c.args.world.now)

pub returns-in_err-quit-clause-worked : goal.returns-in_err-quit-clause-worked
returns-in_err-quit-clause-worked g c = worked_lost (c.requires.1.1.tracks c.args.key c.in-Some.conn (sym c.in-Some.ensures.value)) (strayed (c.in_err-quit.ensures.lost (desk_of [])))

pub returns-clause-worked : goal.returns-clause-worked
returns-clause-worked g c = worked_went (c.requires.1.1.tracks c.args.key c.in-Some.conn (sym c.in-Some.ensures.value)) (moved (c.in_ok-quit.ensures.went (desk_of [])))
