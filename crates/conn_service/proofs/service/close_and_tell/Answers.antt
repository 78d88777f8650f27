use Rattle.conn_service.proofs.Farewells.{tells_then}
use Rattle.std.proofs.Common.{◌∙◌}
use Rattle.std.proofs.lemmas.Result.{on_ok_weaker, on_err_weaker}
use Rattle.conn_service.proofs.Wents.{went_then, lost_then, tracked_then, no_desk}
use Rattle.conn_service.proofs.Leaves.{closes_then, shut_still, leaves_told, on_both}
use Rattle.conn_service.proofs.service.close_and_tell.Goals as goal

pub tell-requires-clause-linked : goal.tell-requires-clause-linked
tell-requires-clause-linked g c = (c.hang_up.ensures.went no_desk).conn.linked

pub tell-requires-clause-tracked : goal.tell-requires-clause-tracked
tell-requires-clause-tracked g c = tracked_then (c.hang_up.ensures.went no_desk) c.requires.tracked

pub returns-clause-went : goal.returns-clause-went
returns-clause-went g c = λ desk. on_ok_weaker c.tell.result (λ w. went_then (c.hang_up.ensures.went desk) w) (c.tell.ensures.went desk)

pub returns-clause-lost : goal.returns-clause-lost
returns-clause-lost g c = λ desk. on_err_weaker c.tell.result (λ w. lost_then (c.hang_up.ensures.went desk) w) (c.tell.ensures.lost desk)

pub returns-clause-lately : goal.returns-clause-lately
returns-clause-lately g c = λ opened. c.tell.ensures.lately ∙ c.hang_up.ensures.open opened

pub returns-clause-tells : goal.returns-clause-tells
returns-clause-tells g c = tells_then (g.W.World.seen c.args.world.now) (g.W.World.seen c.hang_up.new.world) (g.W.World.seen c.tell.new.world) c.hang_up.ensures.tells c.tell.ensures.tells

pub returns-clause-cause : goal.returns-clause-cause
returns-clause-cause g c = c.tell.ensures.cause

pub returns-clause-links : goal.returns-clause-links
returns-clause-links g c = closes_then c.hang_up.ensures.links c.tell.ensures.links

pub returns-clause-closed : goal.returns-clause-closed
returns-clause-closed g c = λ no_. shut_still c.args.conn.now.client.link c.tell.ensures.links (c.hang_up.ensures.closed no_)

pub returns-clause-leaves : goal.returns-clause-leaves
returns-clause-leaves g c = on_both c.tell.result (λ same w. leaves_told c.args.conn.now c.tell.new.conn c.requires.kept same w.conn.client (closes_then c.hang_up.ensures.links c.tell.ensures.links)) c.tell.ensures.open (c.tell.ensures.went no_desk)
