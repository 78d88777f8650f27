use Rattle.std.proofs.Common.{subst, sym, ◌∙◌, ℕ}
use Rattle.conn_service.specs.Pins.{IsBelow}
use Rattle.conn_service.proofs.Wents.{went_then, linked_still, keeps_open, no_desk}
use Rattle.conn_service.proofs.Counts.{counted_same}
use Rattle.conn_service.proofs.Leaves.{closes_then, closes_read, leaves_idle, leaves_then, idle_waits}
use Rattle.conn_service.proofs.service.attempt_after.Goals as goal

pub answer-requires : goal.answer-requires
answer-requires g c = linked_still c.requires.linked (keeps_open c.requires.waits.phase c.take_read.ensures.client c.take_read.ensures.server c.take_read.ensures.number)

pub attempt-requires-clause-linked : goal.attempt-requires-clause-linked
attempt-requires-clause-linked g c = (c.answer.ensures.went (g.S.Shared.desk c.args.shared.now)).conn.linked

pub attempt-requires-clause-below : goal.attempt-requires-clause-below
attempt-requires-clause-below g c = (c.answer.ensures.went (g.S.Shared.desk c.args.shared.now)).desk.below
    (subst (λ (n : ℕ). IsBelow (g.S.Shared.desk c.args.shared.now).generations n) (sym c.take_read.ensures.number) c.requires.below)

pub attempt-requires-clause-counted : goal.attempt-requires-clause-counted
attempt-requires-clause-counted g c = c.answer.ensures.counted _ (counted_same c.take_read.ensures.client c.take_read.ensures.server c.requires.counted)

pub returns-in_default-clause-went : goal.returns-in_default-clause-went
returns-in_default-clause-went g c = λ s l linked did lately. went_then (c.take_read.ensures.went _ _ _ _ _ linked did lately) (c.give_up.ensures.went _)

pub give_up-requires-in_default-answer : goal.give_up-requires-in_default-answer
give_up-requires-in_default-answer g c = (c.answer.ensures.went (g.S.Shared.desk c.args.shared.now)).conn.linked

pub returns-in_default-answer-clause-went : goal.returns-in_default-answer-clause-went
returns-in_default-answer-clause-went g c = λ s l linked did lately. went_then (c.take_read.ensures.went _ _ _ _ _ linked did lately) (went_then (c.answer.ensures.went _) (c.give_up-in_default-answer.ensures.went _))

pub returns-clause-went : goal.returns-clause-went
returns-clause-went g c = λ s l linked did lately. went_then (c.take_read.ensures.went _ _ _ _ _ linked did lately) (went_then (c.answer.ensures.went _) c.attempt.ensures.went)

pub take_read-requires-clause-open : goal.take_read-requires-clause-open
take_read-requires-clause-open g c = c.requires.waits.phase

pub returns-in_default-clause-leaves : goal.returns-in_default-clause-leaves
returns-in_default-clause-leaves g c = λ s l linked did lately. leaves_idle c.args.conn.now c.give_up.new.conn (idle_waits c.requires.waits (λ is. cc)) ((c.give_up.ensures.went no_desk).conn.client ∙ c.take_read.ensures.client) (closes_then (closes_read s _ c.args.conn.now.client.link c.args.read c.args.buffer.now did) c.give_up.ensures.links)

pub returns-in_default-answer-clause-leaves : goal.returns-in_default-answer-clause-leaves
returns-in_default-answer-clause-leaves g c = λ s l linked did lately. leaves_idle c.args.conn.now c.give_up-in_default-answer.new.conn (idle_waits c.requires.waits (λ is. cc)) ((c.give_up-in_default-answer.ensures.went no_desk).conn.client ∙ (c.answer.ensures.went no_desk).conn.client ∙ c.take_read.ensures.client) (closes_then (closes_read s _ c.args.conn.now.client.link c.args.read c.args.buffer.now did) (closes_then c.answer.ensures.links c.give_up-in_default-answer.ensures.links))

pub returns-clause-leaves : goal.returns-clause-leaves
returns-clause-leaves g c = λ s l linked did lately. leaves_then linked (went_then (c.take_read.ensures.went _ _ _ _ (g.S.Shared.desk c.args.shared.now) linked did lately) (c.answer.ensures.went (g.S.Shared.desk c.args.shared.now))) c.attempt.ensures.went
    (leaves_idle c.args.conn.now c.answer.new.conn (idle_waits c.requires.waits (λ is. cc)) ((c.answer.ensures.went no_desk).conn.client ∙ c.take_read.ensures.client) (closes_then (closes_read s _ c.args.conn.now.client.link c.args.read c.args.buffer.now did) c.answer.ensures.links)) c.attempt.ensures.leaves
