use Rattle.conn_service.proofs.Farewells.{tells_none, tells_close}
use Rattle.std.proofs.Common.{refl, inl}
use Rattle.conn_service.proofs.Wents.{went_same, went_close}
use Rattle.conn_service.proofs.Lists.{not_false}
use Rattle.conn_service.proofs.Leaves.{closes_same, closes_close, close_shut}
use Rattle.conn_service.proofs.links.hang_up.Goals as goal

pub returns-then-is_open-clause-went : goal.returns-then-is_open-clause-went
returns-then-is_open-clause-went g c = λ desk. went_same c.requires

pub returns-clause-went : goal.returns-clause-went
returns-clause-went g c = λ desk. went_close c.args.conn.now.client.link (went_same c.requires) (inl refl) c.requires.come c.close.ensures.seen c.close.ensures.lately
    (λ is. absurd (not_false (c.is_open.ensures.1 is) c.if-is_open.false)) (λ ex. absurd (not_false (c.is_open.ensures.1 ex.phase) c.if-is_open.false))

pub returns-then-is_open-clause-tells : goal.returns-then-is_open-clause-tells
returns-then-is_open-clause-tells g c = tells_none (g.W.World.seen c.args.world.now)

pub returns-clause-tells : goal.returns-clause-tells
returns-clause-tells g c = tells_close (g.W.World.seen c.args.world.now) c.args.conn.now.client.link (g.W.World.seen c.close.new.self) c.close.ensures.seen

pub returns-then-is_open-clause-links : goal.returns-then-is_open-clause-links
returns-then-is_open-clause-links g c = closes_same refl

pub returns-clause-links : goal.returns-clause-links
returns-clause-links g c = closes_close (g.W.World.seen c.args.world.now) (g.W.World.seen c.close.new.self) c.args.conn.now.client.link c.close.ensures.seen

pub returns-then-is_open-clause-closed : goal.returns-then-is_open-clause-closed
returns-then-is_open-clause-closed g c = λ no_. absurd (no_ (c.is_open.ensures.0 c.if-is_open.true))

pub returns-clause-closed : goal.returns-clause-closed
returns-clause-closed g c = λ no_. close_shut (g.W.World.seen c.args.world.now) (g.W.World.seen c.close.new.self) c.args.conn.now.client.link c.close.ensures.seen
