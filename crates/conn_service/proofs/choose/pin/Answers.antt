use Rattle.std.proofs.Common.{refl}
use Rattle.std.proofs.lemmas.Result.{on_ok_weaker}
use Rattle.conn_service.proofs.Lists.{grew_below, no_steps}
use Rattle.conn_service.proofs.Wents.{went_desk, reached_still}
use Rattle.conn_service.proofs.Desks.{desk_pinned, desk_refused, seats_by, attended_by, last_held}
use Rattle.conn_service.proofs.choose.pin.Goals as goal

pub returns-in_err-issue-clause-went : goal.returns-in_err-issue-clause-went
returns-in_err-issue-clause-went g c = λ s l linked.
    went_desk linked refl (λ is. is) (λ ex. (ex, refl)) (λ k. no_steps k) refl (desk_refused c.in_err-issue.ensures.pinned refl) (reached_still (λ steps r. r))

pub attend-attended-requires : goal.attend-attended-requires
attend-attended-requires g c = last_held c.in_ok-issue.ensures.pinned.last

pub pin-requires-2-clause-rises : goal.pin-requires-2-clause-rises
pin-requires-2-clause-rises g c = grew_below _ _ _ c.in_ok-issue.ensures.pinned.grew c.requires.below _ c.in_ok-issue.ensures.pinned.greatest

pub returns-in_err-pin-clause-went : goal.returns-in_err-pin-clause-went
returns-in_err-pin-clause-went g c = λ s l linked.
    went_desk linked c.pin-2.ensures.client (λ is. c.requires.waits.phase) c.pin-2.ensures.server
    (λ k. record { quiet = refl; sound = refl }) refl (desk_pinned c.in_ok-issue.ensures.pinned (seats_by _ c.attend-attended.result c.attend-attended.ensures.attended) c.pin-2.ensures.number) c.pin-2.ensures.reached

pub returns-clause-went : goal.returns-clause-went
returns-clause-went g c = λ s l linked.
    went_desk linked c.pin-2.ensures.client (λ is. c.requires.waits.phase) c.pin-2.ensures.server
    (λ k. record { quiet = refl; sound = refl }) refl (desk_pinned c.in_ok-issue.ensures.pinned (seats_by _ c.attend-attended.result c.attend-attended.ensures.attended) c.pin-2.ensures.number) c.pin-2.ensures.reached

pub returns-clause-attended : goal.returns-clause-attended
returns-clause-attended g c = attended_by _ _ _ _ c.attend-attended.result c.pin-2.ensures.number c.attend-attended.ensures.attended

pub returns-clause-looks : goal.returns-clause-looks
returns-clause-looks g c = on_ok_weaker c.attend-attended.result (λ made. made.0) c.attend-attended.ensures.made

pub returns-clause-picks : goal.returns-clause-picks
returns-clause-picks g c = on_ok_weaker c.attend-attended.result (λ made. made.1) c.attend-attended.ensures.made
