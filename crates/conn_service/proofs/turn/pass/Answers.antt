use Rattle.std.proofs.Common.{◌∙◌, ap, ◌≢◌}
use Rattle.conn_machine.specs.declared.parts.Client.{Client}
use Rattle.conn_service.proofs.Wents.{went_let_go, no_desk}
use Rattle.conn_service.proofs.Counts.{if_ok, server_other}
use Rattle.conn_service.proofs.Calms.{calm_released, counted_released}
use Rattle.conn_service.proofs.Leaves.{leaves_idle, leaves_released}
use Rattle.conn_service.proofs.turn.pass.Goals as goal

pub returns-in-None-clause-went : goal.returns-in-None-clause-went
returns-in-None-clause-went g c = c.pass_once.ensures.went

pub returns-in-Some-clause-went : goal.returns-in-Some-clause-went
returns-in-Some-clause-went g c = λ desk. went_let_go c.in-Some.link c.requires.linked c.in-Some.ensures (c.pass_once-moved.ensures.went desk) c.release.ensures.seen c.release.ensures.lately

pub returns-in-Some-clause-counted : goal.returns-in-Some-clause-counted
returns-in-Some-clause-counted g c =
    let other : c.in-Some.link ≢ c.pass_once-moved.new.conn.client.link = λ same. server_other c.requires.linked c.in-Some.ensures.0 c.in-Some.ensures.1 (same ∙ ap (λ (k : Client). k.link) (c.pass_once-moved.ensures.went no_desk).conn.client) in
    counted_released c.release.ensures.lately other c.release.ensures.still c.pass_once-moved.ensures.counted

pub returns-in-Some-clause-calm : goal.returns-in-Some-clause-calm
returns-in-Some-clause-calm g c =
    let other : c.in-Some.link ≢ c.pass_once-moved.new.conn.client.link = λ same. server_other c.requires.linked c.in-Some.ensures.0 c.in-Some.ensures.1 (same ∙ ap (λ (k : Client). k.link) (c.pass_once-moved.ensures.went no_desk).conn.client) in
    if_ok c.pass_once-moved.result (λ moved f e. calm_released c.release.ensures.lately other c.release.ensures.still (f e)) c.pass_once-moved.ensures.calm

pub returns-in-None-clause-leaves : goal.returns-in-None-clause-leaves
returns-in-None-clause-leaves g c = leaves_idle c.args.conn.now c.pass_once.new.conn c.in-None.ensures (c.pass_once.ensures.went no_desk).conn.client c.pass_once.ensures.links

pub returns-in-Some-clause-leaves : goal.returns-in-Some-clause-leaves
returns-in-Some-clause-leaves g c = let w = c.pass_once-moved.ensures.went no_desk in
    leaves_released c.args.conn.now c.pass_once-moved.new.conn c.in-Some.link c.in-Some.ensures w.conn.client w.conn.server c.pass_once-moved.ensures.links c.release.ensures.seen
