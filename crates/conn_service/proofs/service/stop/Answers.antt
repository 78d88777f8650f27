use Rattle.conn_service.proofs.Farewells.{tells_then, told_by}
use Rattle.std.proofs.Common.{inr}
use Rattle.std.proofs.lemmas.Result.{on_ok_weaker, on_err_weaker}
use Rattle.conn_service.proofs.Wents.{went_then, went_weaker, lost_then, lost_weaker, tracked_then, no_desk, not_open}
use Rattle.conn_service.proofs.Leaves.{closed_ended}
use Rattle.conn_service.proofs.service.stop.Goals as goal

pub close_and_tell-requires-clause-linked : goal.close_and_tell-requires-clause-linked
close_and_tell-requires-clause-linked g c = (c.halt.ensures.went no_desk).conn.linked

pub close_and_tell-requires-clause-tracked : goal.close_and_tell-requires-clause-tracked
close_and_tell-requires-clause-tracked g c = tracked_then (c.halt.ensures.went no_desk) c.requires.tracked

pub close_and_tell-requires-clause-kept : goal.close_and_tell-requires-clause-kept
close_and_tell-requires-clause-kept g c = inr c.halt.ensures.over

pub returns-clause-went : goal.returns-clause-went
returns-clause-went g c = λ desk. on_ok_weaker c.close_and_tell.result (λ w. went_then (c.halt.ensures.went desk) (went_weaker (λ x. tt) w)) (c.close_and_tell.ensures.went desk)

pub returns-clause-lost : goal.returns-clause-lost
returns-clause-lost g c = λ desk. on_err_weaker c.close_and_tell.result (λ w. lost_then (c.halt.ensures.went desk) (lost_weaker (λ x. tt) w)) (c.close_and_tell.ensures.lost desk)

pub returns-clause-finished : goal.returns-clause-finished
returns-clause-finished g c = on_ok_weaker c.close_and_tell.result (λ done. done c.halt.ensures.over) c.close_and_tell.ensures.finished

pub returns-clause-tells : goal.returns-clause-tells
returns-clause-tells g c = tells_then (g.W.World.seen c.args.world.now) (g.W.World.seen c.halt.new.world) (g.W.World.seen c.close_and_tell.new.world) c.halt.ensures.tells c.close_and_tell.ensures.tells

pub returns-clause-stopped : goal.returns-clause-stopped
returns-clause-stopped g c = λ opened. on_ok_weaker c.close_and_tell.result (λ done. told_by _ _ (c.close_and_tell.ensures.cause _ (c.halt.ensures.stopped opened)) (done c.halt.ensures.over).1) c.close_and_tell.ensures.finished

pub returns-clause-closed : goal.returns-clause-closed
returns-clause-closed g c = closed_ended c.args.conn.now c.halt.new.conn c.halt.ensures.leaves c.halt.ensures.over c.close_and_tell.ensures.links (c.close_and_tell.ensures.closed (not_open _ c.halt.ensures.over))
