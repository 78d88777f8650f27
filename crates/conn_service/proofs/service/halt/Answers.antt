use Rattle.conn_service.proofs.Farewells.{tells_none, tells_release}
use Rattle.std.proofs.Common.{refl, subst, sym, ℕ, Option, inl}
use Rattle.conn_service.proofs.Lists.{not_false}
use Rattle.conn_machine.specs.Reached.{IsEnding}
use Rattle.conn_service.specs.Released.{IsServer}
use Rattle.conn_service.proofs.Wents.{went_none, went_stop, went_weaker, went_let_go, keeps_ending, not_open}
use Rattle.conn_service.proofs.Leaves.{closes_same, closes_released, leaves_idle, leaves_released}
use Rattle.conn_service.proofs.service.halt.Goals as goal

pub returns-then-not-is_open-clause-went : goal.returns-then-not-is_open-clause-went
returns-then-not-is_open-clause-went g c = λ desk. went_weaker (λ x. tt) (went_none c.requires (keeps_ending c.give_up.ensures.over c.give_up.ensures.client c.give_up.ensures.number) c.give_up.ensures.reached)

pub returns-in-Some-clause-went : goal.returns-in-Some-clause-went
returns-in-Some-clause-went g c = λ desk.
    went_let_go c.in-Some.link c.requires (subst (λ (o : Option ℕ). IsServer c.args.conn.now o) c.in-Some.is c.server_of-server.ensures)
    (went_stop c.requires (keeps_ending (subst IsEnding (sym c.stop.ensures.over) tt) c.stop.ensures.client c.stop.ensures.number) c.stop.ensures.reached)
    c.release.ensures.seen c.release.ensures.lately

pub returns-in_default-clause-went : goal.returns-in_default-clause-went
returns-in_default-clause-went g c = λ desk. went_stop c.requires (keeps_ending (subst IsEnding (sym c.stop.ensures.over) tt) c.stop.ensures.client c.stop.ensures.number) c.stop.ensures.reached

pub returns-in-Some-clause-over : goal.returns-in-Some-clause-over
returns-in-Some-clause-over g c = subst IsEnding (sym c.stop.ensures.over) tt

pub returns-in_default-clause-over : goal.returns-in_default-clause-over
returns-in_default-clause-over g c = subst IsEnding (sym c.stop.ensures.over) tt

pub returns-then-not-is_open-clause-tells : goal.returns-then-not-is_open-clause-tells
returns-then-not-is_open-clause-tells g c = tells_none (g.W.World.seen c.args.world.now)

pub returns-in_default-clause-tells : goal.returns-in_default-clause-tells
returns-in_default-clause-tells g c = tells_none (g.W.World.seen c.args.world.now)

pub returns-in-Some-clause-tells : goal.returns-in-Some-clause-tells
returns-in-Some-clause-tells g c = tells_release _ (g.W.World.seen c.args.world.now) c.in-Some.link (g.W.World.seen c.release.new.world) c.release.ensures.seen

pub returns-then-not-is_open-clause-stopped : goal.returns-then-not-is_open-clause-stopped
returns-then-not-is_open-clause-stopped g c = λ opened. absurd (not_false (c.is_open.ensures.1 opened) c.if-not-is_open.true)

pub returns-in_default-clause-stopped : goal.returns-in_default-clause-stopped
returns-in_default-clause-stopped g c = λ opened. inl c.stop.ensures.over

pub returns-in-Some-clause-stopped : goal.returns-in-Some-clause-stopped
returns-in-Some-clause-stopped g c = λ opened. inl c.stop.ensures.over

pub returns-then-not-is_open-clause-links : goal.returns-then-not-is_open-clause-links
returns-then-not-is_open-clause-links g c = closes_same refl

pub returns-in-Some-clause-links : goal.returns-in-Some-clause-links
returns-in-Some-clause-links g c = closes_released c.stop.new.self _ _ c.in-Some.link c.release.ensures.seen

pub returns-in_default-clause-links : goal.returns-in_default-clause-links
returns-in_default-clause-links g c = closes_same refl

pub returns-then-not-is_open-clause-leaves : goal.returns-then-not-is_open-clause-leaves
returns-then-not-is_open-clause-leaves g c = leaves_idle c.args.conn.now c.give_up.new.self (λ ex. not_false (c.is_open.ensures.1 ex.phase) c.if-not-is_open.true) c.give_up.ensures.client (closes_same refl)

pub returns-in-Some-clause-leaves : goal.returns-in-Some-clause-leaves
returns-in-Some-clause-leaves g c = leaves_released c.args.conn.now c.stop.new.self c.in-Some.link (subst (λ (o : Option ℕ). IsServer c.args.conn.now o) c.in-Some.is c.server_of-server.ensures)
    c.stop.ensures.client (λ ex. absurd (not_open _ (subst IsEnding (sym c.stop.ensures.over) tt) ex.phase)) (closes_same refl) c.release.ensures.seen

pub returns-in_default-clause-leaves : goal.returns-in_default-clause-leaves
returns-in_default-clause-leaves g c = leaves_idle c.args.conn.now c.stop.new.self (subst (λ (o : Option ℕ). IsServer c.args.conn.now o) c.in_default.is c.server_of-server.ensures) c.stop.ensures.client (closes_same refl)
