use Rattle.std.proofs.Common.{refl, sym, ◌∙◌, subst, arith}
use Rattle.conn_machine.specs.declared.parts.Current.{Current}
use Rattle.desk.specs.Desks.{IsAttended}
use Rattle.conn_service.proofs.Wents.{went_same, went_none, went_then, went_desk, keeps_same, linked_still, waits_still, wants_still}
use Rattle.conn_service.proofs.Desks.{desk_looked, look_attended}
use Rattle.conn_service.proofs.choose.look.Goals as goal

pub returns-in_default-clause-went : goal.returns-in_default-clause-went
returns-in_default-clause-went g c = λ s l linked. went_same linked

pub returns-in_err-reserve-clause-went : goal.returns-in_err-reserve-clause-went
returns-in_err-reserve-clause-went g c = λ s l linked. went_none linked (keeps_same c.reserve.ensures.client c.reserve.ensures.current c.reserve.ensures.phase c.reserve.ensures.stage) c.reserve.ensures.reached

pub look-mask-requires-clause-attended : goal.look-mask-requires-clause-attended
look-mask-requires-clause-attended g c = subst (λ (m : Current). IsAttended (g.S.Shared.desk c.args.shared.now) m.number) (sym c.reserve.ensures.current) c.requires.attended

pub looked-requires-clause-waits : goal.looked-requires-clause-waits
looked-requires-clause-waits g c = waits_still c.reserve.ensures.phase c.reserve.ensures.stage c.in-Look.ensures.0

pub looked-requires-clause-node : goal.looked-requires-clause-node
looked-requires-clause-node g c = wants_still c.args.conn.now c.reserve.new.self c.reserve.ensures.current c.in-Look.ensures.1

pub looked-requires-clause-room : goal.looked-requires-clause-room
looked-requires-clause-room g c = c.in_ok-reserve.ensures.room.looks

pub returns-in_err-looked-clause-went : goal.returns-in_err-looked-clause-went
returns-in_err-looked-clause-went g c = λ s l linked.
    let keeps = keeps_same c.reserve.ensures.client c.reserve.ensures.current c.reserve.ensures.phase c.reserve.ensures.stage in
    went_then (went_none linked keeps c.reserve.ensures.reached)
    (went_desk (linked_still linked keeps) c.looked.ensures.client (λ is. c.reserve.ensures.phase ∙ c.in-Look.ensures.0.phase) c.looked.ensures.server
    (λ k. record { quiet = refl; sound = refl }) refl (desk_looked c.look-mask.ensures.looked c.looked.ensures.number) c.looked.ensures.reached)

pub draw-requires-clause-attended : goal.draw-requires-clause-attended
draw-requires-clause-attended g c = look_attended _ _ c.look-mask.ensures.looked c.looked.ensures.number

pub draw-requires-clause-picks : goal.draw-requires-clause-picks
draw-requires-clause-picks g c = omega (arith, c.look-mask.ensures.room.1, c.requires.picks)

pub returns-clause-went : goal.returns-clause-went
returns-clause-went g c = λ s l linked.
    let keeps = keeps_same c.reserve.ensures.client c.reserve.ensures.current c.reserve.ensures.phase c.reserve.ensures.stage in
    let w = went_then (went_none linked keeps c.reserve.ensures.reached)
    (went_desk (linked_still linked keeps) c.looked.ensures.client (λ is. c.reserve.ensures.phase ∙ c.in-Look.ensures.0.phase) c.looked.ensures.server
    (λ k. record { quiet = refl; sound = refl }) refl (desk_looked c.look-mask.ensures.looked c.looked.ensures.number) c.looked.ensures.reached) in
    went_then w (c.draw.ensures.went s l w.conn.linked)
