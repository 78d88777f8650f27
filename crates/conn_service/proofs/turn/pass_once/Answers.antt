use Rattle.std.proofs.Common.{sym, ◌∙◌}
use Rattle.conn_service.proofs.Wents.{went_then, no_desk}
use Rattle.conn_service.proofs.Calms.{rests_from}
use Rattle.conn_service.proofs.Leaves.{closes_then}
use Rattle.conn_service.proofs.turn.pass_once.Goals as goal

pub returns-in_err-received-clause-went : goal.returns-in_err-received-clause-went
returns-in_err-received-clause-went g c = c.receive.ensures.went

pub ask-requires-clause-linked : goal.ask-requires-clause-linked
ask-requires-clause-linked g c = (c.receive.ensures.went no_desk).conn.linked

pub returns-in_err-asked-clause-went : goal.returns-in_err-asked-clause-went
returns-in_err-asked-clause-went g c = λ desk. went_then (c.receive.ensures.went desk) (c.ask.ensures.went desk)

pub returns-in_err-asked-clause-counted : goal.returns-in_err-asked-clause-counted
returns-in_err-asked-clause-counted g c = c.ask.ensures.counted _ c.receive.ensures.counted

pub hear-requires-clause-linked : goal.hear-requires-clause-linked
hear-requires-clause-linked g c = (c.ask.ensures.went no_desk).conn.linked

pub hear-requires-clause-counted : goal.hear-requires-clause-counted
hear-requires-clause-counted g c = c.ask.ensures.counted _ c.receive.ensures.counted

pub returns-in_err-heard-clause-went : goal.returns-in_err-heard-clause-went
returns-in_err-heard-clause-went g c = λ desk. went_then (c.receive.ensures.went desk) (went_then (c.ask.ensures.went desk) (c.hear.ensures.went desk))

pub answer-requires : goal.answer-requires
answer-requires g c = (c.hear.ensures.went no_desk).conn.linked

pub returns-in_err-answered-clause-went : goal.returns-in_err-answered-clause-went
returns-in_err-answered-clause-went g c = λ desk. went_then (c.receive.ensures.went desk) (went_then (c.ask.ensures.went desk) (went_then (c.hear.ensures.went desk) (c.answer.ensures.went desk)))

pub returns-in_err-answered-clause-counted : goal.returns-in_err-answered-clause-counted
returns-in_err-answered-clause-counted g c = c.answer.ensures.counted _ c.hear.ensures.counted

pub returns-clause-went : goal.returns-clause-went
returns-clause-went g c = λ desk. went_then (c.receive.ensures.went desk) (went_then (c.ask.ensures.went desk) (went_then (c.hear.ensures.went desk) (c.answer.ensures.went desk)))

pub returns-clause-counted : goal.returns-clause-counted
returns-clause-counted g c = c.answer.ensures.counted _ c.hear.ensures.counted

pub returns-clause-prompt : goal.returns-clause-prompt
returns-clause-prompt g c = c.in_ok-answered.ensures.prompt c.in_ok-heard.ensures.prompt

pub returns-clause-calm : goal.returns-clause-calm
returns-clause-calm g c = λ e opened.
    let none = c.any.ensures e in
    let v = c.in_ok-answered.ensures.still none.3 opened in
    let u = c.in_ok-heard.ensures.still none.2 in
    let t = c.in_ok-asked.ensures.still none.1 in
    let s = c.in_ok-received.ensures.still none.0 (sym t.0.same.phase ∙ sym u.0.same.phase ∙ sym v.0.same.phase ∙ opened) in
    rests_from c.requires.stage s.0 s.1 t.0 t.1 u.0 u.1 v.0 v.1
    (c.in_ok-answered.ensures.prompt c.in_ok-heard.ensures.prompt) opened

pub returns-in_err-received-clause-links : goal.returns-in_err-received-clause-links
returns-in_err-received-clause-links g c = c.receive.ensures.links

pub returns-in_err-asked-clause-links : goal.returns-in_err-asked-clause-links
returns-in_err-asked-clause-links g c = closes_then c.receive.ensures.links c.ask.ensures.links

pub returns-in_err-heard-clause-links : goal.returns-in_err-heard-clause-links
returns-in_err-heard-clause-links g c = closes_then c.receive.ensures.links (closes_then c.ask.ensures.links c.hear.ensures.links)

pub returns-in_err-answered-clause-links : goal.returns-in_err-answered-clause-links
returns-in_err-answered-clause-links g c = closes_then c.receive.ensures.links (closes_then c.ask.ensures.links (closes_then c.hear.ensures.links c.answer.ensures.links))

pub returns-clause-links : goal.returns-clause-links
returns-clause-links g c = closes_then c.receive.ensures.links (closes_then c.ask.ensures.links (closes_then c.hear.ensures.links c.answer.ensures.links))
