use Rattle.std.proofs.Common.{refl, inr, ◌∙◌}
use Rattle.std.proofs.lemmas.Result.{on_ok_weaker, on_err_weaker}
use Rattle.conn_service.proofs.Wents.{went_then, went_quiet, lost_then, tracked_then, of_client, keeps_same, not_open}
use Rattle.conn_service.proofs.Calms.{calm_told, ready_told}
use Rattle.conn_service.proofs.Leaves.{on_both, closes_same, leaves_idle, leaves_then, idle_waits, open_unfinished, closed_ended, ended_before}
use Rattle.conn_service.proofs.service.serve_idle.Goals as goal

pub returns-in-NotYet-clause-went : goal.returns-in-NotYet-clause-went
returns-in-NotYet-clause-went g c = went_quiet c.args.conn.now.client.link c.requires.ready.linked (of_client refl) c.in-NotYet.ensures.seen c.in-NotYet.ensures.lately.only
    (keeps_same c.rest.ensures.client c.rest.ensures.current c.rest.ensures.phase c.rest.ensures.stage) c.rest.ensures.reached

pub returns-in-NotYet-clause-ready : goal.returns-in-NotYet-clause-ready
returns-in-NotYet-clause-ready g c =
    let w = went_quiet {f = g.S.Shared.desk c.args.shared.now} c.args.conn.now.client.link c.requires.ready.linked (of_client refl) c.in-NotYet.ensures.seen c.in-NotYet.ensures.lately.only
    (keeps_same c.rest.ensures.client c.rest.ensures.current c.rest.ensures.phase c.rest.ensures.stage) c.rest.ensures.reached in
    inr (record {
      is_open = c.rest.ensures.phase ∙ c.requires.ready.is_open;
      prompt = c.rest.ensures.prompt c.requires.ready.prompt;
      linked = w.conn.linked;
      below = w.desk.below c.requires.ready.below;
    })

pub close_and_tell-requires-clause-linked : goal.close_and_tell-requires-clause-linked
close_and_tell-requires-clause-linked g c = (c.attempt_after.ensures.went _ _ c.requires.ready.linked c.read_client-read.ensures.seen c.read_client-read.ensures.lately).conn.linked

pub close_and_tell-requires-clause-tracked : goal.close_and_tell-requires-clause-tracked
close_and_tell-requires-clause-tracked g c = tracked_then (c.attempt_after.ensures.went _ _ c.requires.ready.linked c.read_client-read.ensures.seen c.read_client-read.ensures.lately) c.requires.tracked

pub close_and_tell-requires-clause-kept : goal.close_and_tell-requires-clause-kept
close_and_tell-requires-clause-kept g c = c.attempt_after.ensures.kept

pub returns-in_default-clause-went : goal.returns-in_default-clause-went
returns-in_default-clause-went g c = on_ok_weaker c.close_and_tell.result (λ w. went_then (c.attempt_after.ensures.went _ _ c.requires.ready.linked c.read_client-read.ensures.seen c.read_client-read.ensures.lately) w) (c.close_and_tell.ensures.went (g.S.Shared.desk c.attempt_after.new.shared))

pub returns-in_default-clause-lost : goal.returns-in_default-clause-lost
returns-in_default-clause-lost g c = on_err_weaker c.close_and_tell.result (λ w. lost_then (c.attempt_after.ensures.went _ _ c.requires.ready.linked c.read_client-read.ensures.seen c.read_client-read.ensures.lately) w) (c.close_and_tell.ensures.lost (g.S.Shared.desk c.attempt_after.new.shared))

pub returns-in_default-clause-ready : goal.returns-in_default-clause-ready
returns-in_default-clause-ready g c = ready_told c.close_and_tell.result (g.W.World.seen c.close_and_tell.new.world) (g.S.Shared.desk c.attempt_after.new.shared).generations c.attempt_after.new.conn c.close_and_tell.new.conn c.attempt_after.ensures.kept c.attempt_after.ensures.calm
    (on_ok_weaker c.close_and_tell.result (λ w. let v = went_then (c.attempt_after.ensures.went _ _ c.requires.ready.linked c.read_client-read.ensures.seen c.read_client-read.ensures.lately) w in (v.conn.linked, v.desk.below c.requires.ready.below)) (c.close_and_tell.ensures.went (g.S.Shared.desk c.attempt_after.new.shared)))
    c.close_and_tell.ensures.open c.close_and_tell.ensures.finished

pub returns-in_default-clause-calm : goal.returns-in_default-clause-calm
returns-in_default-clause-calm g c = calm_told c.close_and_tell.result c.attempt_after.new.conn c.close_and_tell.new.conn c.attempt_after.ensures.kept c.attempt_after.ensures.calm c.close_and_tell.ensures.lately c.close_and_tell.ensures.open c.close_and_tell.ensures.finished

pub returns-in-NotYet-clause-leaves : goal.returns-in-NotYet-clause-leaves
returns-in-NotYet-clause-leaves g c = leaves_idle c.args.conn.now c.rest.new.self (idle_waits c.requires.waits (λ is. cc)) c.rest.ensures.client (closes_same c.in-NotYet.ensures.seen)

pub returns-in-NotYet-clause-closed : goal.returns-in-NotYet-clause-closed
returns-in-NotYet-clause-closed g c = λ finished. absurd (open_unfinished c.rest.new.self (c.rest.ensures.phase ∙ c.requires.waits.phase) finished)

pub attempt_after-requires-clause-waits : goal.attempt_after-requires-clause-waits
attempt_after-requires-clause-waits g c = c.requires.waits

pub returns-in_default-clause-leaves : goal.returns-in_default-clause-leaves
returns-in_default-clause-leaves g c = on_both c.close_and_tell.result (λ w leaves. leaves_then c.requires.ready.linked (c.attempt_after.ensures.went _ _ c.requires.ready.linked c.read_client-read.ensures.seen c.read_client-read.ensures.lately) w (c.attempt_after.ensures.leaves _ _ c.requires.ready.linked c.read_client-read.ensures.seen c.read_client-read.ensures.lately) leaves) (c.close_and_tell.ensures.went (g.S.Shared.desk c.attempt_after.new.shared)) c.close_and_tell.ensures.leaves

pub returns-in_default-clause-closed : goal.returns-in_default-clause-closed
returns-in_default-clause-closed g c = on_ok_weaker c.close_and_tell.result (λ same finished. let end = ended_before c.attempt_after.new.conn c.close_and_tell.new.conn c.attempt_after.ensures.kept same finished in
    closed_ended c.args.conn.now c.attempt_after.new.conn (c.attempt_after.ensures.leaves _ _ c.requires.ready.linked c.read_client-read.ensures.seen c.read_client-read.ensures.lately) end c.close_and_tell.ensures.links (c.close_and_tell.ensures.closed (not_open _ end))) c.close_and_tell.ensures.open
