use Rattle.std.proofs.Common.{refl, inl, inr, subst}
use Rattle.link_world.specs.Lately.{ReadLately}
use Rattle.link_world.specs.declared.world.LinkRead.{LinkRead}
use Rattle.conn_service.proofs.Wents.{went_same}
use Rattle.conn_service.proofs.Counts.{counted_client, stays_work, stays_read, work_same, if_ok}
use Rattle.conn_service.proofs.Leaves.{closes_same, closes_read}
use Rattle.conn_service.proofs.client.receive.Goals as goal

pub returns-in_default-clause-went : goal.returns-in_default-clause-went
returns-in_default-clause-went g c = λ desk. went_same c.requires.linked

pub returns-in_default-clause-server : goal.returns-in_default-clause-server
returns-in_default-clause-server g c = λ ex. (ex, refl)

pub returns-in_default-clause-still : goal.returns-in_default-clause-still
returns-in_default-clause-still g c = λ e open_. (stays_work _ (work_same _), c.in_default.ensures.none _ c.requires.counted open_)

pub returns-clause-went : goal.returns-clause-went
returns-clause-went g c = λ desk. c.take_read.ensures.went _ _ _ _ desk c.requires.linked c.read_client-read.ensures.seen c.read_client-read.ensures.lately

pub returns-clause-counted : goal.returns-clause-counted
returns-clause-counted g c = counted_client c.requires.linked c.read_client-read.ensures.lately c.take_read.ensures.client c.take_read.ensures.server c.in-Some.ensures.some.3 c.requires.counted

pub returns-clause-still : goal.returns-clause-still
returns-clause-still g c = if_ok c.take_read.result (λ moved f e open_.
    let q = f e in
    let lately = subst (λ (r : LinkRead). ReadLately (g.W.World.lately c.args.world.now) c.args.conn.now.client.link r (g.W.World.lately c.read_client-read.new.world)) q.0 c.read_client-read.ensures.lately in
    (stays_read lately q.1, inr (inr (inl (rw c.take_read.ensures.client lately.read_quiet))))) c.take_read.ensures.still

pub returns-in_default-clause-links : goal.returns-in_default-clause-links
returns-in_default-clause-links g c = closes_same refl

pub returns-clause-links : goal.returns-clause-links
returns-clause-links g c = closes_read (g.W.World.seen c.args.world.now) (g.W.World.seen c.read_client-read.new.world) c.args.conn.now.client.link c.read_client-read.result _ c.read_client-read.ensures.seen
