use Rattle.std.proofs.Common.{inr, ◌≡◌, ◌∙◌}
use Rattle.std.proofs.lemmas.Result.{on_ok_weaker, on_err_weaker}
use Rattle.conn_service.proofs.Wents.{went_then, lost_then, tracked_then, no_desk, not_open}
use Rattle.conn_service.proofs.Leaves.{closed_ended, either_way}
use Rattle.conn_service.proofs.service.quit.Goals as goal

pub close_and_tell-requires-clause-linked : goal.close_and_tell-requires-clause-linked
close_and_tell-requires-clause-linked g c = (c.give_up.ensures.went no_desk).conn.linked

pub close_and_tell-requires-clause-tracked : goal.close_and_tell-requires-clause-tracked
close_and_tell-requires-clause-tracked g c = tracked_then (c.give_up.ensures.went no_desk) c.requires.tracked

pub close_and_tell-requires-clause-kept : goal.close_and_tell-requires-clause-kept
close_and_tell-requires-clause-kept g c = inr c.give_up.ensures.over

pub returns-clause-went : goal.returns-clause-went
returns-clause-went g c = λ desk. on_ok_weaker c.close_and_tell.result (λ w. went_then (c.give_up.ensures.went desk) w) (c.close_and_tell.ensures.went desk)

pub returns-clause-lost : goal.returns-clause-lost
returns-clause-lost g c = λ desk. on_err_weaker c.close_and_tell.result (λ w. lost_then (c.give_up.ensures.went desk) w) (c.close_and_tell.ensures.lost desk)

pub returns-clause-finished : goal.returns-clause-finished
returns-clause-finished g c = on_ok_weaker c.close_and_tell.result (λ done. done c.give_up.ensures.over) c.close_and_tell.ensures.finished

pub returns-clause-closed : goal.returns-clause-closed
returns-clause-closed g c = closed_ended c.args.conn.now c.give_up.new.conn c.give_up.ensures.leaves c.give_up.ensures.over c.close_and_tell.ensures.links (c.close_and_tell.ensures.closed (not_open _ c.give_up.ensures.over))

pub returns-clause-stops : goal.returns-clause-stops
returns-clause-stops g c =
    either_way ((g.W.World.seen c.close_and_tell.new.world).stops ≡ (g.W.World.seen c.give_up.new.world).stops) c.close_and_tell.result
    (on_ok_weaker c.close_and_tell.result (λ w. w.world.stops) (c.close_and_tell.ensures.went no_desk))
    (on_err_weaker c.close_and_tell.result (λ lost. lost.1.world.stops) (c.close_and_tell.ensures.lost no_desk))
    ∙ (c.give_up.ensures.went no_desk).world.stops
