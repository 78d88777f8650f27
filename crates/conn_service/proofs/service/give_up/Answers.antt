use Rattle.std.proofs.Common.{refl, subst, ℕ, Option}
use Rattle.conn_service.specs.Released.{IsServer}
use Rattle.conn_service.proofs.Wents.{went_none, went_let_go, keeps_ending, not_open}
use Rattle.conn_service.proofs.Leaves.{closes_same, closes_released, leaves_idle, leaves_released}
use Rattle.conn_service.proofs.service.give_up.Goals as goal

pub returns-in-Some-clause-went : goal.returns-in-Some-clause-went
returns-in-Some-clause-went g c = λ desk.
    went_let_go c.in-Some.link c.requires (subst (λ (o : Option ℕ). IsServer c.args.conn.now o) c.in-Some.is c.server_of-server.ensures)
    (went_none c.requires (keeps_ending c.give_up.ensures.over c.give_up.ensures.client c.give_up.ensures.number) c.give_up.ensures.reached)
    c.release.ensures.seen c.release.ensures.lately

pub returns-in_default-clause-went : goal.returns-in_default-clause-went
returns-in_default-clause-went g c = λ desk. went_none c.requires (keeps_ending c.give_up.ensures.over c.give_up.ensures.client c.give_up.ensures.number) c.give_up.ensures.reached

pub returns-in-Some-clause-links : goal.returns-in-Some-clause-links
returns-in-Some-clause-links g c = closes_released c.give_up.new.self _ _ c.in-Some.link c.release.ensures.seen

pub returns-in_default-clause-links : goal.returns-in_default-clause-links
returns-in_default-clause-links g c = closes_same refl

pub returns-in-Some-clause-leaves : goal.returns-in-Some-clause-leaves
returns-in-Some-clause-leaves g c = leaves_released c.args.conn.now c.give_up.new.self c.in-Some.link (subst (λ (o : Option ℕ). IsServer c.args.conn.now o) c.in-Some.is c.server_of-server.ensures)
    c.give_up.ensures.client (λ ex. absurd (not_open _ c.give_up.ensures.over ex.phase)) (closes_same refl) c.release.ensures.seen

pub returns-in_default-clause-leaves : goal.returns-in_default-clause-leaves
returns-in_default-clause-leaves g c = leaves_idle c.args.conn.now c.give_up.new.self (subst (λ (o : Option ℕ). IsServer c.args.conn.now o) c.in_default.is c.server_of-server.ensures) c.give_up.ensures.client (closes_same refl)
