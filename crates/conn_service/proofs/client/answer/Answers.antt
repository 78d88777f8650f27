use Rattle.std.proofs.Common.{refl, subst, sym, ℕ, ◌∙◌, ◌≡◌, List, length, ◌<◌, true, false, rules}
use Rattle.conn_service.proofs.Lists.{not_false}
use Rattle.conn_service.proofs.Wents.{went_same, went_none, went_then, keeps_same, keeps_server, server_then, linked_still}
use Rattle.conn_service.proofs.Counts.{counted_same, stays_work, stays_then, work_same, if_ok, empty_of, some_of}
use Rattle.conn_service.proofs.Leaves.{closes_same}
use Rattle.conn_service.proofs.client.answer.Goals as goal

pub returns-then-not-is_open-clause-went : goal.returns-then-not-is_open-clause-went
returns-then-not-is_open-clause-went g c = λ desk. went_same c.requires

pub returns-then-not-is_open-clause-server : goal.returns-then-not-is_open-clause-server
returns-then-not-is_open-clause-server g c = λ ex. (ex, refl)

pub returns-then-not-is_open-clause-still : goal.returns-then-not-is_open-clause-still
returns-then-not-is_open-clause-still g c = λ e open_. let no_ : c.is_open.result ≡ false = search rules in absurd (not_false (c.is_open.ensures.1 open_) no_)

pub returns-then-is_empty-clause-went : goal.returns-then-is_empty-clause-went
returns-then-is_empty-clause-went g c = λ desk. went_same c.requires

pub returns-then-is_empty-clause-server : goal.returns-then-is_empty-clause-server
returns-then-is_empty-clause-server g c = λ ex. (ex, refl)

pub returns-then-is_empty-clause-still : goal.returns-then-is_empty-clause-still
returns-then-is_empty-clause-still g c = λ e open_. let none : c.is_empty.result ≡ true = search rules in
    (stays_work _ (work_same _), λ some. absurd (some (sym c.pending.ensures ∙ empty_of c.is_empty.result c.pending.result.now c.is_empty.ensures none)))

pub returns-in_err-reserve-clause-went : goal.returns-in_err-reserve-clause-went
returns-in_err-reserve-clause-went g c = λ desk. went_none c.requires (keeps_same c.reserve.ensures.client c.reserve.ensures.current c.reserve.ensures.phase c.reserve.ensures.stage) c.reserve.ensures.reached

pub returns-in_err-reserve-clause-server : goal.returns-in_err-reserve-clause-server
returns-in_err-reserve-clause-server g c = keeps_server c.reserve.ensures.phase c.reserve.ensures.stage c.reserve.ensures.current

pub returns-in_err-reserve-clause-counted : goal.returns-in_err-reserve-clause-counted
returns-in_err-reserve-clause-counted g c = λ r h. counted_same c.reserve.ensures.client (keeps_server c.reserve.ensures.phase c.reserve.ensures.stage c.reserve.ensures.current) h

pub send-requires-clause-linked : goal.send-requires-clause-linked
send-requires-clause-linked g c = linked_still c.requires (keeps_same c.reserve.ensures.client c.reserve.ensures.current c.reserve.ensures.phase c.reserve.ensures.stage)

pub send-requires-clause-open : goal.send-requires-clause-open
send-requires-clause-open g c = c.reserve.ensures.phase ∙ c.is_open.ensures.0 (search rules)

pub send-requires-clause-some : goal.send-requires-clause-some
send-requires-clause-some g c = let some : c.is_empty.result ≡ false = search rules in
    subst (λ (l : List ℕ). 0 < length l) (c.pending.ensures ∙ sym c.reserve.ensures.pending) (some_of c.is_empty.result c.pending.result.now c.is_empty.ensures some)

pub send-requires-clause-room : goal.send-requires-clause-room
send-requires-clause-room g c = c.in_ok-reserve.ensures.room.notes

pub returns-clause-went : goal.returns-clause-went
returns-clause-went g c = λ desk. went_then (went_none c.requires (keeps_same c.reserve.ensures.client c.reserve.ensures.current c.reserve.ensures.phase c.reserve.ensures.stage) c.reserve.ensures.reached)
    (c.send.ensures.went desk)

pub returns-clause-server : goal.returns-clause-server
returns-clause-server g c = server_then (keeps_server c.reserve.ensures.phase c.reserve.ensures.stage c.reserve.ensures.current) c.send.ensures.server

pub returns-clause-prompt : goal.returns-clause-prompt
returns-clause-prompt g c = λ before. c.send.ensures.prompt (c.reserve.ensures.prompt before)

pub returns-clause-counted : goal.returns-clause-counted
returns-clause-counted g c = λ r h. c.send.ensures.counted r
    (counted_same c.reserve.ensures.client (keeps_server c.reserve.ensures.phase c.reserve.ensures.stage c.reserve.ensures.current) h)

pub returns-clause-still : goal.returns-clause-still
returns-clause-still g c = if_ok c.send.result (λ moved f e open_. let q = f e in (
  stays_then (stays_work _ (record {
    client = c.reserve.ensures.client;
    current = c.reserve.ensures.current;
    phase = c.reserve.ensures.phase;
    stage = c.reserve.ensures.stage;
    over = c.reserve.ensures.over;
    input = c.reserve.ensures.input;
    pending = c.reserve.ensures.pending;
  })) q.0,
  λ some. q.1,
)) c.send.ensures.still

pub returns-then-not-is_open-clause-links : goal.returns-then-not-is_open-clause-links
returns-then-not-is_open-clause-links g c = closes_same refl

pub returns-then-is_empty-clause-links : goal.returns-then-is_empty-clause-links
returns-then-is_empty-clause-links g c = closes_same refl

pub returns-in_err-reserve-clause-links : goal.returns-in_err-reserve-clause-links
returns-in_err-reserve-clause-links g c = closes_same refl

pub returns-clause-links : goal.returns-clause-links
returns-clause-links g c = c.send.ensures.links
