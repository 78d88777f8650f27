use Rattle.std.proofs.Common.{refl, sym, ◌∙◌, ◌≡◌, ap, subst}
use Rattle.conn_machine.specs.declared.parts.Stage.TheVariants as stage
use Rattle.conn_machine.specs.declared.parts.Client.{Client}
use Rattle.conn_service.specs.Calm.{IsStanding}
use Rattle.conn_service.proofs.Wents.{went_same, went_then, no_desk}
use Rattle.conn_service.proofs.Calms.{counted_reset}
use Rattle.conn_service.proofs.Leaves.{closes_same, leaves_same, leaves_idle, leaves_then}
use Rattle.conn_service.proofs.turn.round.Goals as goal

pub pass-requires-clause-stage : goal.pass-requires-clause-stage
pass-requires-clause-stage g c = subst IsStanding (sym c.in-Exchange.is) tt

pub pass-requires-in-Reply-clause-stage : goal.pass-requires-in-Reply-clause-stage
pass-requires-in-Reply-clause-stage g c = subst IsStanding (sym c.in-Reply.is) tt

pub choose-requires-clause-waits : goal.choose-requires-clause-waits
choose-requires-clause-waits g c = record { phase = c.requires.open; stage = c.in-Pin.is }

pub returns-in_err-choose-in-Pin-clause-went : goal.returns-in_err-choose-in-Pin-clause-went
returns-in_err-choose-in-Pin-clause-went g c = c.choose.ensures.went _ _ c.requires.linked

pub dial-requires : goal.dial-requires
dial-requires g c = (c.choose.ensures.went _ (g.W.World.lately c.args.world.now) c.requires.linked).conn.linked

pub returns-in_err-dial-in-Pin-clause-went : goal.returns-in_err-dial-in-Pin-clause-went
returns-in_err-dial-in-Pin-clause-went g c = went_then (c.choose.ensures.went _ _ c.requires.linked) (c.dial.ensures.went _)

pub returns-in-Head-clause-went : goal.returns-in-Head-clause-went
returns-in-Head-clause-went g c = c.listen.ensures.went _

pub returns-in-Exchange-clause-went : goal.returns-in-Exchange-clause-went
returns-in-Exchange-clause-went g c = c.pass.ensures.went _

pub returns-in-Reply-clause-went : goal.returns-in-Reply-clause-went
returns-in-Reply-clause-went g c = c.pass-in-Reply.ensures.went _

pub returns-in_ok-dial-in-Pin-clause-went : goal.returns-in_ok-dial-in-Pin-clause-went
returns-in_ok-dial-in-Pin-clause-went g c = went_then (c.choose.ensures.went _ _ c.requires.linked) (c.dial.ensures.went _)

pub returns-in_ok-dial-in-Pin-clause-prompt : goal.returns-in_ok-dial-in-Pin-clause-prompt
returns-in_ok-dial-in-Pin-clause-prompt g c = c.in_ok-dial-in-Pin.ensures.prompt (c.in_ok-choose-in-Pin.ensures.prompt c.requires.prompt)

pub returns-in_ok-dial-in-Pin-clause-counted : goal.returns-in_ok-dial-in-Pin-clause-counted
returns-in_ok-dial-in-Pin-clause-counted g c =
    let w = c.choose.ensures.went (g.W.World.seen c.args.world.now) (g.W.World.lately c.args.world.now) c.requires.linked in
    let v = c.dial.ensures.went (g.S.Shared.desk c.choose.new.shared) in
    counted_reset (ap (λ (k : Client). (g.W.World.lately c.dial.new.world).reads k.link) v.conn.client ∙ c.dial.ensures.reads ∙ ap (λ (k : Client). (g.W.World.lately c.args.world.now).reads k.link) w.conn.client) c.requires.counted

pub returns-in_default-clause-went : goal.returns-in_default-clause-went
returns-in_default-clause-went g c = went_same c.requires.linked

pub returns-in-Head-clause-leaves : goal.returns-in-Head-clause-leaves
returns-in-Head-clause-leaves g c = leaves_idle c.args.conn.now c.listen.new.conn (λ ex. let e : stage.Head ≡ stage.Exchange = sym c.in-Head.is ∙ ex.stage in cc) (c.listen.ensures.went no_desk).conn.client c.listen.ensures.links

pub returns-in_err-choose-in-Pin-clause-leaves : goal.returns-in_err-choose-in-Pin-clause-leaves
returns-in_err-choose-in-Pin-clause-leaves g c = leaves_idle c.args.conn.now c.choose.new.conn (λ ex. let e : stage.Pin ≡ stage.Exchange = sym c.in-Pin.is ∙ ex.stage in cc) (c.choose.ensures.went (g.W.World.seen c.args.world.now) (g.W.World.lately c.args.world.now) c.requires.linked).conn.client (closes_same refl)

pub returns-in_err-dial-in-Pin-clause-leaves : goal.returns-in_err-dial-in-Pin-clause-leaves
returns-in_err-dial-in-Pin-clause-leaves g c = let w = c.choose.ensures.went (g.W.World.seen c.args.world.now) (g.W.World.lately c.args.world.now) c.requires.linked in
    leaves_then c.requires.linked w (c.dial.ensures.went (g.S.Shared.desk c.choose.new.shared))
    (leaves_idle c.args.conn.now c.choose.new.conn (λ ex. let e : stage.Pin ≡ stage.Exchange = sym c.in-Pin.is ∙ ex.stage in cc) w.conn.client (closes_same refl)) c.dial.ensures.leaves

pub returns-in_ok-dial-in-Pin-clause-leaves : goal.returns-in_ok-dial-in-Pin-clause-leaves
returns-in_ok-dial-in-Pin-clause-leaves g c = let w = c.choose.ensures.went (g.W.World.seen c.args.world.now) (g.W.World.lately c.args.world.now) c.requires.linked in
    leaves_then c.requires.linked w (c.dial.ensures.went (g.S.Shared.desk c.choose.new.shared))
    (leaves_idle c.args.conn.now c.choose.new.conn (λ ex. let e : stage.Pin ≡ stage.Exchange = sym c.in-Pin.is ∙ ex.stage in cc) w.conn.client (closes_same refl)) c.dial.ensures.leaves

pub returns-in-Exchange-clause-leaves : goal.returns-in-Exchange-clause-leaves
returns-in-Exchange-clause-leaves g c = c.pass.ensures.leaves

pub returns-in-Reply-clause-leaves : goal.returns-in-Reply-clause-leaves
returns-in-Reply-clause-leaves g c = c.pass-in-Reply.ensures.leaves

pub returns-in_default-clause-leaves : goal.returns-in_default-clause-leaves
returns-in_default-clause-leaves g c = leaves_same (g.W.World.seen c.args.world.now) c.args.conn.now
