use Rattle.std.proofs.Common.{arith}
use Rattle.std.proofs.lemmas.Result.{on_ok_weaker, on_err_weaker}
use Rattle.conn_service.proofs.Wents.{went_then, lost_then, tracked_then, not_open}
use Rattle.conn_service.proofs.Calms.{calm_told, ready_told}
use Rattle.conn_service.proofs.Leaves.{on_both, leaves_then, closed_ended, ended_before}
use Rattle.conn_service.proofs.service.serve_busy.Goals as goal

pub attempt-requires-clause-linked : goal.attempt-requires-clause-linked
attempt-requires-clause-linked g c = c.requires.ready.linked

pub attempt-requires-clause-below : goal.attempt-requires-clause-below
attempt-requires-clause-below g c = c.requires.ready.below

pub attempt-requires-clause-prompt : goal.attempt-requires-clause-prompt
attempt-requires-clause-prompt g c = c.requires.ready.prompt

pub attempt-requires-clause-counted : goal.attempt-requires-clause-counted
attempt-requires-clause-counted g c = record { client = omega arith; client_most = omega arith; server = λ ex. omega arith; server_most = omega arith }

pub close_and_tell-requires-clause-linked : goal.close_and_tell-requires-clause-linked
close_and_tell-requires-clause-linked g c = c.attempt.ensures.went.conn.linked

pub close_and_tell-requires-clause-tracked : goal.close_and_tell-requires-clause-tracked
close_and_tell-requires-clause-tracked g c = tracked_then c.attempt.ensures.went c.requires.tracked

pub close_and_tell-requires-clause-kept : goal.close_and_tell-requires-clause-kept
close_and_tell-requires-clause-kept g c = c.attempt.ensures.kept

pub returns-clause-went : goal.returns-clause-went
returns-clause-went g c = on_ok_weaker c.close_and_tell.result (λ w. went_then c.attempt.ensures.went w) (c.close_and_tell.ensures.went (g.S.Shared.desk c.attempt.new.shared))

pub returns-clause-lost : goal.returns-clause-lost
returns-clause-lost g c = on_err_weaker c.close_and_tell.result (λ w. lost_then c.attempt.ensures.went w) (c.close_and_tell.ensures.lost (g.S.Shared.desk c.attempt.new.shared))

pub returns-clause-ready : goal.returns-clause-ready
returns-clause-ready g c = ready_told c.close_and_tell.result (g.W.World.seen c.close_and_tell.new.world) (g.S.Shared.desk c.attempt.new.shared).generations c.attempt.new.conn c.close_and_tell.new.conn c.attempt.ensures.kept c.attempt.ensures.calm
    (on_ok_weaker c.close_and_tell.result (λ w. let v = went_then c.attempt.ensures.went w in (v.conn.linked, v.desk.below c.requires.ready.below)) (c.close_and_tell.ensures.went (g.S.Shared.desk c.attempt.new.shared)))
    c.close_and_tell.ensures.open c.close_and_tell.ensures.finished

pub returns-clause-calm : goal.returns-clause-calm
returns-clause-calm g c = calm_told c.close_and_tell.result c.attempt.new.conn c.close_and_tell.new.conn c.attempt.ensures.kept c.attempt.ensures.calm c.close_and_tell.ensures.lately c.close_and_tell.ensures.open c.close_and_tell.ensures.finished

pub returns-clause-leaves : goal.returns-clause-leaves
returns-clause-leaves g c = on_both c.close_and_tell.result (λ w leaves. leaves_then c.requires.ready.linked c.attempt.ensures.went w c.attempt.ensures.leaves leaves) (c.close_and_tell.ensures.went (g.S.Shared.desk c.attempt.new.shared)) c.close_and_tell.ensures.leaves

pub returns-clause-closed : goal.returns-clause-closed
returns-clause-closed g c = on_ok_weaker c.close_and_tell.result (λ same finished. let end = ended_before c.attempt.new.conn c.close_and_tell.new.conn c.attempt.ensures.kept same finished in
    closed_ended c.args.conn.now c.attempt.new.conn c.attempt.ensures.leaves end c.close_and_tell.ensures.links (c.close_and_tell.ensures.closed (not_open _ end))) c.close_and_tell.ensures.open
