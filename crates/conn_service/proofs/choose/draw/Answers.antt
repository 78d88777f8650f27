use Rattle.std.proofs.Common.{refl, sym, ◌∙◌, subst}
use Rattle.conn_machine.specs.declared.parts.Current.{Current}
use Rattle.desk.specs.Desks.{IsAttended}
use Rattle.conversation.specs.Steps.{drew, spent}
use Rattle.conn_service.proofs.Lists.{no_steps, no_elements}
use Rattle.conn_service.proofs.Wents.{went_same, went_none, went_then, went_desk, keeps_same, linked_still, idle_at, reached_still, prompt_dial, waits_still, wants_still}
use Rattle.conn_service.proofs.Desks.{desk_drew, desk_undrawn, first_child, spent_here}
use Rattle.conn_service.proofs.choose.draw.Goals as goal

pub returns-in_default-clause-went : goal.returns-in_default-clause-went
returns-in_default-clause-went g c = λ s l linked. went_same linked

pub returns-in_err-reserve-clause-went : goal.returns-in_err-reserve-clause-went
returns-in_err-reserve-clause-went g c = λ s l linked. went_none linked (keeps_same c.reserve.ensures.client c.reserve.ensures.current c.reserve.ensures.phase c.reserve.ensures.stage) c.reserve.ensures.reached

pub draw-requires-clause-attended : goal.draw-requires-clause-attended
draw-requires-clause-attended g c = subst (λ (m : Current). IsAttended (g.S.Shared.desk c.args.shared.now) m.number) (sym c.reserve.ensures.current) c.requires.attended

pub drew-requires-clause-waits : goal.drew-requires-clause-waits
drew-requires-clause-waits g c = waits_still c.reserve.ensures.phase c.reserve.ensures.stage c.in-Walk.ensures.0

pub drew-requires-clause-node : goal.drew-requires-clause-node
drew-requires-clause-node g c = wants_still c.args.conn.now c.reserve.new.self c.reserve.ensures.current c.in-Walk.ensures.1

pub drew-requires-clause-child : goal.drew-requires-clause-child
drew-requires-clause-child g c = first_child c.in-Pick.ensures.drawn.drawn.1.lawful.weighs

pub drew-requires-clause-room : goal.drew-requires-clause-room
drew-requires-clause-room g c = c.in_ok-reserve.ensures.room.picks

pub spent-requires-clause-waits : goal.spent-requires-clause-waits
spent-requires-clause-waits g c = waits_still c.reserve.ensures.phase c.reserve.ensures.stage c.in-Walk.ensures.0

pub spent-requires-clause-node : goal.spent-requires-clause-node
spent-requires-clause-node g c = wants_still c.args.conn.now c.reserve.new.self c.reserve.ensures.current c.in-Walk.ensures.1

pub returns-in-Pick-clause-went : goal.returns-in-Pick-clause-went
returns-in-Pick-clause-went g c = λ s l linked.
    let keeps = keeps_same c.reserve.ensures.client c.reserve.ensures.current c.reserve.ensures.phase c.reserve.ensures.stage in
    went_then (went_none linked keeps c.reserve.ensures.reached)
    (went_desk (linked_still linked keeps) c.drew.ensures.client (λ is. c.reserve.ensures.phase ∙ c.in-Walk.ensures.0.phase) (idle_at c.drew.ensures.waits (λ is. cc))
    (λ k. record { quiet = refl; sound = refl }) refl (desk_drew (drew _) c.in-Pick.ensures.seat c.in-Pick.ensures.drawn refl refl refl (λ k held. absurd (no_elements k held)) c.drew.ensures.number) c.drew.ensures.reached)

pub returns-in-NoneUp-clause-went : goal.returns-in-NoneUp-clause-went
returns-in-NoneUp-clause-went g c = λ s l linked.
    let keeps = keeps_same c.reserve.ensures.client c.reserve.ensures.current c.reserve.ensures.phase c.reserve.ensures.stage in
    went_then (went_none linked keeps c.reserve.ensures.reached)
    (went_desk (linked_still linked keeps) refl (λ is. is) (λ ex. (ex, refl)) (λ k. no_steps k) refl
    (desk_undrawn c.in-NoneUp.ensures.seat c.in-NoneUp.ensures.drawn refl refl) (reached_still (λ steps r. r)))

pub returns-in-Spent-clause-went : goal.returns-in-Spent-clause-went
returns-in-Spent-clause-went g c = λ s l linked.
    let keeps = keeps_same c.reserve.ensures.client c.reserve.ensures.current c.reserve.ensures.phase c.reserve.ensures.stage in
    went_then (went_none linked keeps c.reserve.ensures.reached)
    (went_desk (linked_still linked keeps) c.spent.ensures.client (λ is. c.reserve.ensures.phase ∙ c.in-Walk.ensures.0.phase) c.spent.ensures.server
    (λ k. record { quiet = refl; sound = refl }) refl (desk_drew (spent _) c.in-Spent.ensures.seat c.in-Spent.ensures.drawn refl refl refl (spent_here c.in-Spent.ensures.drawn) c.spent.ensures.number) c.spent.ensures.reached)

pub returns-in-Pick-clause-prompt : goal.returns-in-Pick-clause-prompt
returns-in-Pick-clause-prompt g c = λ before. prompt_dial c.drew.ensures.waits
