use Rattle.link_world.specs.Log.{came}
use Rattle.conn_service.proofs.Wents.{ready_new, tracked_new}
use Rattle.serving_tests.proofs.services.arrive.Goals as goal

pub returns-in_ok-conn-in-Some-clause-ready : goal.returns-in_ok-conn-in-Some-clause-ready
returns-in_ok-conn-in-Some-clause-ready g c = λ generations.
    let did = rw c.in-Some.is at c.in_ok-arrival.ensures.seen in
    ready_new c.in-Some.arrival.link c.in_ok-conn-in-Some.conn did c.in_ok-conn-in-Some.ensures.link c.in_ok-conn-in-Some.ensures.waits c.in_ok-conn-in-Some.ensures.number c.in_ok-conn-in-Some.ensures.prompt

pub returns-in_ok-conn-in-Some-clause-tracked : goal.returns-in_ok-conn-in-Some-clause-tracked
returns-in_ok-conn-in-Some-clause-tracked g c =
    let did = rw c.in-Some.is at c.in_ok-arrival.ensures.seen in
    tracked_new c.in-Some.arrival.link (came _ _) c.in_ok-conn-in-Some.conn did c.in_ok-conn-in-Some.ensures.reached
