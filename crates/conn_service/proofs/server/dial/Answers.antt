use Rattle.std.proofs.Common.{inr, refl, subst, sym, ap, ◌∙◌, ◌≡◌, ℕ, true}
use Rattle.link_world.specs.Lately.{Lately}
use Rattle.conn_service.proofs.Lists.{not_false}
use Rattle.conn_service.proofs.Wents.{went_same, went_none, went_then, went_dial, went_idle, went_released, keeps_same, linked_still, waits_still}
use Rattle.conn_service.proofs.Leaves.{closes_same, leaves_same, leaves_idle, leaves_dial, idle_waits}
use Rattle.conn_service.proofs.server.dial.Goals as goal

pub returns-in_default-clause-went : goal.returns-in_default-clause-went
returns-in_default-clause-went g c = λ desk. went_same c.requires

pub returns-in_err-reserve-clause-went : goal.returns-in_err-reserve-clause-went
returns-in_err-reserve-clause-went g c = λ desk. went_none c.requires (keeps_same c.reserve.ensures.client c.reserve.ensures.current c.reserve.ensures.phase c.reserve.ensures.stage) c.reserve.ensures.reached

pub returns-in_default-aim-clause-went : goal.returns-in_default-aim-clause-went
returns-in_default-aim-clause-went g c = λ desk. went_none c.requires (keeps_same c.reserve.ensures.client c.reserve.ensures.current c.reserve.ensures.phase c.reserve.ensures.stage) c.reserve.ensures.reached

pub returns-in_err-link-clause-went : goal.returns-in_err-link-clause-went
returns-in_err-link-clause-went g c = λ desk. went_idle c.requires c.in_err-link.ensures.seen c.in_err-link.ensures.lately (keeps_same c.reserve.ensures.client c.reserve.ensures.current c.reserve.ensures.phase c.reserve.ensures.stage) c.reserve.ensures.reached

pub dialled-begun-requires-clause-waits : goal.dialled-begun-requires-clause-waits
dialled-begun-requires-clause-waits g c = waits_still c.reserve.ensures.phase c.reserve.ensures.stage c.in-Dial.ensures

pub dialled-begun-requires-clause-room : goal.dialled-begun-requires-clause-room
dialled-begun-requires-clause-room g c = c.in_ok-reserve.ensures.room.backs

pub returns-clause-went : goal.returns-clause-went
returns-clause-went g c = λ desk.
    let came = rw c.as_slice.ensures at c.in_ok-link.ensures.seen in
    went_released c.in_ok-link.link
    (went_then (went_none c.requires (keeps_same c.reserve.ensures.client c.reserve.ensures.current c.reserve.ensures.phase c.reserve.ensures.stage) c.reserve.ensures.reached)
    (went_dial c.in_ok-link.link (linked_still c.requires (keeps_same c.reserve.ensures.client c.reserve.ensures.current c.reserve.ensures.phase c.reserve.ensures.stage)) came c.in_ok-link.ensures.lately.0 (c.reserve.ensures.phase ∙ c.in-Dial.ensures.phase)
    c.dialled-begun.ensures.client c.dialled-begun.ensures.number c.dialled-begun.ensures.server (λ steps fresh r. c.dialled-begun.ensures.reached steps c.in-Some.aim.now (sym c.in-Some.ensures.aim) fresh r)))
    (inr (inr (record { before = came.not_come; after = came.come }))) came.come
    (λ same. not_false (subst (λ (i : ℕ). (g.W.World.seen c.args.world.now).come i ≡ true) (sym same) c.requires.come) came.not_come)
    c.release.ensures.seen c.release.ensures.lately

pub returns-clause-reads : goal.returns-clause-reads
returns-clause-reads g c =
    (c.release.ensures.lately.others c.args.conn.now.client.link (λ same. not_false (subst (λ (i : ℕ). (g.W.World.seen c.args.world.now).come i ≡ true) same c.requires.come) c.in_ok-link.ensures.seen.not_come)).reads
    ∙ ap (λ (l : Lately). l.reads c.args.conn.now.client.link) c.in_ok-link.ensures.lately.0

pub returns-in_default-clause-leaves : goal.returns-in_default-clause-leaves
returns-in_default-clause-leaves g c = leaves_same (g.W.World.seen c.args.world.now) c.args.conn.now

pub returns-in_err-reserve-clause-leaves : goal.returns-in_err-reserve-clause-leaves
returns-in_err-reserve-clause-leaves g c = leaves_idle c.args.conn.now c.reserve.new.self (idle_waits c.in-Dial.ensures (λ is. cc)) c.reserve.ensures.client (closes_same refl)

pub returns-in_default-aim-clause-leaves : goal.returns-in_default-aim-clause-leaves
returns-in_default-aim-clause-leaves g c = leaves_idle c.args.conn.now c.reserve.new.self (idle_waits c.in-Dial.ensures (λ is. cc)) c.reserve.ensures.client (closes_same refl)

pub returns-in_err-link-clause-leaves : goal.returns-in_err-link-clause-leaves
returns-in_err-link-clause-leaves g c = leaves_idle c.args.conn.now c.reserve.new.self (idle_waits c.in-Dial.ensures (λ is. cc)) c.reserve.ensures.client (closes_same c.in_err-link.ensures.seen)

pub returns-clause-leaves : goal.returns-clause-leaves
returns-clause-leaves g c = leaves_dial c.args.conn.now c.dialled-begun.new.self c.in_ok-link.link (idle_waits c.in-Dial.ensures (λ is. cc)) (c.dialled-begun.ensures.client ∙ c.reserve.ensures.client) c.in_ok-link.ensures.seen c.dialled-begun.ensures.server c.release.ensures.seen
