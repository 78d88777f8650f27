use Rattle.std.proofs.Common.{◌≡◌, sym, ◌∙◌, subst}
use Rattle.conn_machine.specs.declared.parts.Stage.TheVariants as stage
use Rattle.conn_service.specs.Calm.{IsStanding}
use Rattle.conn_service.specs.Moments.{IsExchanging}
use Rattle.conn_service.proofs.Wents.{went_then, no_desk}
use Rattle.conn_service.proofs.Counts.{stays_work, work_same}
use Rattle.conn_service.proofs.Calms.{rests_from}
use Rattle.conn_service.proofs.Leaves.{closes_then}
use Rattle.conn_service.proofs.turn.listen.Goals as goal

pub returns-in_err-received-clause-went : goal.returns-in_err-received-clause-went
returns-in_err-received-clause-went g c = c.receive.ensures.went

pub answer-requires : goal.answer-requires
answer-requires g c = (c.receive.ensures.went no_desk).conn.linked

pub returns-in_err-answered-clause-went : goal.returns-in_err-answered-clause-went
returns-in_err-answered-clause-went g c = λ desk. went_then (c.receive.ensures.went desk) (c.answer.ensures.went desk)

pub returns-in_err-answered-clause-counted : goal.returns-in_err-answered-clause-counted
returns-in_err-answered-clause-counted g c = c.answer.ensures.counted _ c.receive.ensures.counted

pub returns-clause-went : goal.returns-clause-went
returns-clause-went g c = λ desk. went_then (c.receive.ensures.went desk) (c.answer.ensures.went desk)

pub returns-clause-counted : goal.returns-clause-counted
returns-clause-counted g c = c.answer.ensures.counted _ c.receive.ensures.counted

pub returns-clause-prompt : goal.returns-clause-prompt
returns-clause-prompt g c = c.in_ok-answered.ensures.prompt c.in_ok-received.ensures.prompt

pub returns-clause-calm : goal.returns-clause-calm
returns-clause-calm g c = λ e opened.
    let none = c.either.ensures e in
    let v = c.in_ok-answered.ensures.still none.1 opened in
    let s = c.in_ok-received.ensures.still none.0 (sym v.0.same.phase ∙ opened) in
    let away : IsExchanging c.receive.new.conn → ⊥ = λ ex. let f : stage.Head ≡ stage.Exchange = sym (s.0.same.stage ∙ c.requires.stage) ∙ ex.stage in cc in
    rests_from (subst IsStanding (sym c.requires.stage) tt) s.0 s.1 (stays_work _ (work_same _)) (λ ex. absurd (away ex)) (stays_work _ (work_same _)) (λ ex. absurd (away ex)) v.0 v.1
    (c.in_ok-answered.ensures.prompt c.in_ok-received.ensures.prompt) opened

pub returns-in_err-received-clause-links : goal.returns-in_err-received-clause-links
returns-in_err-received-clause-links g c = c.receive.ensures.links

pub returns-in_err-answered-clause-links : goal.returns-in_err-answered-clause-links
returns-in_err-answered-clause-links g c = closes_then c.receive.ensures.links c.answer.ensures.links

pub returns-clause-links : goal.returns-clause-links
returns-clause-links g c = closes_then c.receive.ensures.links c.answer.ensures.links
