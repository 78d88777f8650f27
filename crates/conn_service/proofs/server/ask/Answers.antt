use Rattle.std.proofs.Common.{refl, subst, sym, ap, ◌∙◌, ◌≡◌, ℕ, List, length, ◌<◌, ◌≤◌, true, false, rules}
use Rattle.link_world.specs.Log.{took}
use Rattle.conn_machine.specs.Reached.{pending_to}
use Rattle.conn_machine.specs.declared.parts.Current.{Current}
use Rattle.conn_service.proofs.Wents.{went_same, went_none, went_then, went_server, went_server_fault, went_quiet, of_server, keeps_open, keeps_same, keeps_server, server_then, keeps_all, linked_still, server_given, serving_still}
use Rattle.conn_service.proofs.Counts.{counted_same, counted_write, stays_work, stays_then, stays_write, work_same, empty_of, some_of}
use Rattle.conn_service.proofs.Leaves.{closes_same, closes_event, closes_fault}
use Rattle.conn_service.proofs.server.ask.Goals as goal

pub returns-in_default-clause-went : goal.returns-in_default-clause-went
returns-in_default-clause-went g c = λ desk. went_same c.requires.linked

pub returns-in_default-clause-server : goal.returns-in_default-clause-server
returns-in_default-clause-server g c = λ ex. (ex, refl)

pub returns-in_default-clause-still : goal.returns-in_default-clause-still
returns-in_default-clause-still g c = λ e. (stays_work _ (work_same _), λ ex some. absurd (c.in_default.ensures ex))

pub returns-in_err-reserve-clause-went : goal.returns-in_err-reserve-clause-went
returns-in_err-reserve-clause-went g c = λ desk. went_none c.requires.linked (keeps_same c.reserve.ensures.client c.reserve.ensures.current c.reserve.ensures.phase c.reserve.ensures.stage) c.reserve.ensures.reached

pub returns-in_err-reserve-clause-server : goal.returns-in_err-reserve-clause-server
returns-in_err-reserve-clause-server g c = keeps_server c.reserve.ensures.phase c.reserve.ensures.stage c.reserve.ensures.current

pub returns-then-is_empty-clause-went : goal.returns-then-is_empty-clause-went
returns-then-is_empty-clause-went g c = λ desk. went_same c.requires.linked

pub returns-then-is_empty-clause-server : goal.returns-then-is_empty-clause-server
returns-then-is_empty-clause-server g c = λ ex. (ex, refl)

pub returns-then-is_empty-clause-still : goal.returns-then-is_empty-clause-still
returns-then-is_empty-clause-still g c = λ e. let none : c.is_empty.result ≡ true = search rules in
    (stays_work _ (work_same _), λ ex some. absurd (some (sym c.back_pending.ensures ∙ empty_of c.is_empty.result c.back_pending.result.now c.is_empty.ensures none)))

pub returns-in_err-reserve-clause-counted : goal.returns-in_err-reserve-clause-counted
returns-in_err-reserve-clause-counted g c = λ r h. counted_same c.reserve.ensures.client (keeps_server c.reserve.ensures.phase c.reserve.ensures.stage c.reserve.ensures.current) h

pub write-requires-clause-given : goal.write-requires-clause-given
write-requires-clause-given g c = server_given c.args.conn.now c.requires.linked c.in-Some.ensures

pub write-requires-clause-piece : goal.write-requires-clause-piece
write-requires-clause-piece g c = let some : c.is_empty.result ≡ false = search rules in
    subst (λ (l : List ℕ). 0 < length l) (c.back_pending.ensures ∙ sym (ap (λ (m : Current). pending_to m.back) c.reserve.ensures.current) ∙ sym c.back_pending-2.ensures) (some_of c.is_empty.result c.back_pending.result.now c.is_empty.ensures some)

pub back_took-requires-clause-waits : goal.back_took-requires-clause-waits
back_took-requires-clause-waits g c = let s = (serving_still c.args.conn.now c.reserve.new.self c.reserve.ensures.phase c.reserve.ensures.stage c.reserve.ensures.current c.in-Some.ensures) in s.0

pub back_took-requires-clause-some : goal.back_took-requires-clause-some
back_took-requires-clause-some g c = subst (λ (l : List ℕ). c.in-Took.n ≤ length l) c.back_pending-2.ensures c.in-Took.ensures.seen.1

pub returns-in-Took-clause-went : goal.returns-in-Took-clause-went
returns-in-Took-clause-went g c = λ desk. let w = rw c.back_pending-2.ensures at c.in-Took.ensures.seen.2 in
    let s = (serving_still c.args.conn.now c.reserve.new.self c.reserve.ensures.phase c.reserve.ensures.stage c.reserve.ensures.current c.in-Some.ensures) in
    went_then (went_none c.requires.linked (keeps_same c.reserve.ensures.client c.reserve.ensures.current c.reserve.ensures.phase c.reserve.ensures.stage) c.reserve.ensures.reached)
    (went_server c.in-Some.link (took _) (linked_still c.requires.linked (keeps_same c.reserve.ensures.client c.reserve.ensures.current c.reserve.ensures.phase c.reserve.ensures.stage)) s refl refl w c.in-Took.ensures.lately.only
    (keeps_open s.0.phase c.back_took.ensures.client c.back_took.ensures.server c.back_took.ensures.number) c.back_took.ensures.reached)

pub returns-in-Took-clause-server : goal.returns-in-Took-clause-server
returns-in-Took-clause-server g c = server_then (keeps_server c.reserve.ensures.phase c.reserve.ensures.stage c.reserve.ensures.current) c.back_took.ensures.server

pub returns-in-Took-clause-prompt : goal.returns-in-Took-clause-prompt
returns-in-Took-clause-prompt g c = c.back_took.ensures.prompt (c.reserve.ensures.prompt c.requires.prompt)

pub returns-in-Took-clause-counted : goal.returns-in-Took-clause-counted
returns-in-Took-clause-counted g c = λ r h. counted_write c.in-Took.ensures.lately c.back_took.ensures.client c.back_took.ensures.server (counted_same c.reserve.ensures.client (keeps_server c.reserve.ensures.phase c.reserve.ensures.stage c.reserve.ensures.current) h)

pub returns-in-NotYet-clause-still : goal.returns-in-NotYet-clause-still
returns-in-NotYet-clause-still g c = λ e. let s = (serving_still c.args.conn.now c.reserve.new.self c.reserve.ensures.phase c.reserve.ensures.stage c.reserve.ensures.current c.in-Some.ensures) in (
  stays_then (stays_work _ (record {
    client = c.reserve.ensures.client;
    current = c.reserve.ensures.current;
    phase = c.reserve.ensures.phase;
    stage = c.reserve.ensures.stage;
    over = c.reserve.ensures.over;
    input = c.reserve.ensures.input;
    pending = c.reserve.ensures.pending;
  })) (stays_write c.in-NotYet.ensures.lately (work_same _)),
  λ ex some. subst (λ (i : ℕ). (g.W.World.lately c.write.new.self).write_quiet i ≡ true) s.1 c.in-NotYet.ensures.lately.write_quiet,
)

pub back_failed-requires-clause-waits : goal.back_failed-requires-clause-waits
back_failed-requires-clause-waits g c = let s = (serving_still c.args.conn.now c.reserve.new.self c.reserve.ensures.phase c.reserve.ensures.stage c.reserve.ensures.current c.in-Some.ensures) in s.0

pub back_failed-requires-clause-room : goal.back_failed-requires-clause-room
back_failed-requires-clause-room g c = c.in_ok-reserve.ensures.room.notes

pub returns-in_err-back_failed-in-Failed-clause-went : goal.returns-in_err-back_failed-in-Failed-clause-went
returns-in_err-back_failed-in-Failed-clause-went g c = λ desk. let s = (serving_still c.args.conn.now c.reserve.new.self c.reserve.ensures.phase c.reserve.ensures.stage c.reserve.ensures.current c.in-Some.ensures) in
    went_then (went_none c.requires.linked (keeps_same c.reserve.ensures.client c.reserve.ensures.current c.reserve.ensures.phase c.reserve.ensures.stage) c.reserve.ensures.reached)
    (went_server_fault c.in-Some.link (linked_still c.requires.linked (keeps_same c.reserve.ensures.client c.reserve.ensures.current c.reserve.ensures.phase c.reserve.ensures.stage)) s c.in-Failed.ensures.seen c.in-Failed.ensures.lately.only
    (keeps_open s.0.phase c.back_failed.ensures.client c.back_failed.ensures.server c.back_failed.ensures.number) (c.back_failed.ensures.reached (c.reserve.ensures.prompt c.requires.prompt)))

pub returns-in_err-back_failed-in-Failed-clause-server : goal.returns-in_err-back_failed-in-Failed-clause-server
returns-in_err-back_failed-in-Failed-clause-server g c = server_then (keeps_server c.reserve.ensures.phase c.reserve.ensures.stage c.reserve.ensures.current) c.back_failed.ensures.server

pub returns-in_err-back_failed-in-Failed-clause-counted : goal.returns-in_err-back_failed-in-Failed-clause-counted
returns-in_err-back_failed-in-Failed-clause-counted g c = λ r h. counted_write c.in-Failed.ensures.lately c.back_failed.ensures.client c.back_failed.ensures.server (counted_same c.reserve.ensures.client (keeps_server c.reserve.ensures.phase c.reserve.ensures.stage c.reserve.ensures.current) h)

pub returns-in_ok-back_failed-in-Failed-clause-went : goal.returns-in_ok-back_failed-in-Failed-clause-went
returns-in_ok-back_failed-in-Failed-clause-went g c = λ desk. let s = (serving_still c.args.conn.now c.reserve.new.self c.reserve.ensures.phase c.reserve.ensures.stage c.reserve.ensures.current c.in-Some.ensures) in
    went_then (went_none c.requires.linked (keeps_same c.reserve.ensures.client c.reserve.ensures.current c.reserve.ensures.phase c.reserve.ensures.stage) c.reserve.ensures.reached)
    (went_server_fault c.in-Some.link (linked_still c.requires.linked (keeps_same c.reserve.ensures.client c.reserve.ensures.current c.reserve.ensures.phase c.reserve.ensures.stage)) s c.in-Failed.ensures.seen c.in-Failed.ensures.lately.only
    (keeps_open s.0.phase c.back_failed.ensures.client c.back_failed.ensures.server c.back_failed.ensures.number) (c.back_failed.ensures.reached (c.reserve.ensures.prompt c.requires.prompt)))

pub returns-in_ok-back_failed-in-Failed-clause-server : goal.returns-in_ok-back_failed-in-Failed-clause-server
returns-in_ok-back_failed-in-Failed-clause-server g c = server_then (keeps_server c.reserve.ensures.phase c.reserve.ensures.stage c.reserve.ensures.current) c.back_failed.ensures.server

pub returns-in_ok-back_failed-in-Failed-clause-counted : goal.returns-in_ok-back_failed-in-Failed-clause-counted
returns-in_ok-back_failed-in-Failed-clause-counted g c = λ r h. counted_write c.in-Failed.ensures.lately c.back_failed.ensures.client c.back_failed.ensures.server (counted_same c.reserve.ensures.client (keeps_server c.reserve.ensures.phase c.reserve.ensures.stage c.reserve.ensures.current) h)

pub returns-in-NotYet-clause-went : goal.returns-in-NotYet-clause-went
returns-in-NotYet-clause-went g c = λ desk. let s = (serving_still c.args.conn.now c.reserve.new.self c.reserve.ensures.phase c.reserve.ensures.stage c.reserve.ensures.current c.in-Some.ensures) in
    went_then (went_none c.requires.linked (keeps_same c.reserve.ensures.client c.reserve.ensures.current c.reserve.ensures.phase c.reserve.ensures.stage) c.reserve.ensures.reached)
    (went_quiet c.in-Some.link (linked_still c.requires.linked (keeps_same c.reserve.ensures.client c.reserve.ensures.current c.reserve.ensures.phase c.reserve.ensures.stage)) (of_server s.0 s.1) c.in-NotYet.ensures.seen c.in-NotYet.ensures.lately.only (keeps_all _) (λ steps r. r))

pub returns-in-NotYet-clause-server : goal.returns-in-NotYet-clause-server
returns-in-NotYet-clause-server g c = keeps_server c.reserve.ensures.phase c.reserve.ensures.stage c.reserve.ensures.current

pub returns-in-NotYet-clause-counted : goal.returns-in-NotYet-clause-counted
returns-in-NotYet-clause-counted g c = λ r h. counted_write c.in-NotYet.ensures.lately refl (λ ex. (ex, refl)) (counted_same c.reserve.ensures.client (keeps_server c.reserve.ensures.phase c.reserve.ensures.stage c.reserve.ensures.current) h)

pub returns-in_default-clause-links : goal.returns-in_default-clause-links
returns-in_default-clause-links g c = closes_same refl

pub returns-in_err-reserve-clause-links : goal.returns-in_err-reserve-clause-links
returns-in_err-reserve-clause-links g c = closes_same refl

pub returns-then-is_empty-clause-links : goal.returns-then-is_empty-clause-links
returns-then-is_empty-clause-links g c = closes_same refl

pub returns-in-Took-clause-links : goal.returns-in-Took-clause-links
returns-in-Took-clause-links g c = closes_event c.in-Took.ensures.seen.2

pub returns-in-NotYet-clause-links : goal.returns-in-NotYet-clause-links
returns-in-NotYet-clause-links g c = closes_same c.in-NotYet.ensures.seen

pub returns-in_err-back_failed-in-Failed-clause-links : goal.returns-in_err-back_failed-in-Failed-clause-links
returns-in_err-back_failed-in-Failed-clause-links g c = closes_fault c.in-Failed.ensures.seen

pub returns-in_ok-back_failed-in-Failed-clause-links : goal.returns-in_ok-back_failed-in-Failed-clause-links
returns-in_ok-back_failed-in-Failed-clause-links g c = closes_fault c.in-Failed.ensures.seen
