use Rattle.std.proofs.Common.{refl, inl, inr, subst, ◌≡◌, ℕ, true, arith}
use Rattle.link_world.specs.Log.{gave, gave_end}
use Rattle.conn_service.proofs.Wents.{went_same, went_none, went_then, went_server, went_server_fault, went_quiet, of_server, keeps_open, keeps_same, keeps_server, server_then, keeps_all, linked_still, server_given, serving_still}
use Rattle.conn_service.proofs.Counts.{counted_same, counted_server, stays_work, stays_then, stays_read, work_same}
use Rattle.conn_service.proofs.Leaves.{closes_same, closes_event, closes_fault}
use Rattle.conn_service.proofs.server.hear.Goals as goal

pub returns-in_default-clause-went : goal.returns-in_default-clause-went
returns-in_default-clause-went g c = λ desk. went_same c.requires.linked

pub returns-in_default-clause-server : goal.returns-in_default-clause-server
returns-in_default-clause-server g c = λ ex. (ex, refl)

pub returns-in_default-clause-still : goal.returns-in_default-clause-still
returns-in_default-clause-still g c = λ e. (stays_work _ (work_same _), λ ex. absurd (c.in_default.ensures ex))

pub returns-in_err-reserve-clause-went : goal.returns-in_err-reserve-clause-went
returns-in_err-reserve-clause-went g c = λ desk. went_none c.requires.linked (keeps_same c.reserve.ensures.client c.reserve.ensures.current c.reserve.ensures.phase c.reserve.ensures.stage) c.reserve.ensures.reached

pub returns-in_err-reserve-clause-server : goal.returns-in_err-reserve-clause-server
returns-in_err-reserve-clause-server g c = keeps_server c.reserve.ensures.phase c.reserve.ensures.stage c.reserve.ensures.current

pub returns-then-reads-ge-READS-clause-went : goal.returns-then-reads-ge-READS-clause-went
returns-then-reads-ge-READS-clause-went g c = λ desk. went_same c.requires.linked

pub returns-then-reads-ge-READS-clause-server : goal.returns-then-reads-ge-READS-clause-server
returns-then-reads-ge-READS-clause-server g c = λ ex. (ex, refl)

pub returns-then-reads-ge-READS-clause-still : goal.returns-then-reads-ge-READS-clause-still
returns-then-reads-ge-READS-clause-still g c = λ e. (stays_work _ (work_same _), λ ex. inr (omega (arith, c.requires.counted.server ex)))

pub returns-in_err-reserve-clause-counted : goal.returns-in_err-reserve-clause-counted
returns-in_err-reserve-clause-counted g c = counted_same c.reserve.ensures.client (keeps_server c.reserve.ensures.phase c.reserve.ensures.stage c.reserve.ensures.current) c.requires.counted

pub read-requires-clause-given : goal.read-requires-clause-given
read-requires-clause-given g c = server_given c.args.conn.now c.requires.linked c.in-Some.ensures

pub returns-in-NotYet-clause-still : goal.returns-in-NotYet-clause-still
returns-in-NotYet-clause-still g c = λ e. let s = (serving_still c.args.conn.now c.reserve.new.self c.reserve.ensures.phase c.reserve.ensures.stage c.reserve.ensures.current c.in-Some.ensures) in (
  stays_then (stays_work _ (record {
    client = c.reserve.ensures.client;
    current = c.reserve.ensures.current;
    phase = c.reserve.ensures.phase;
    stage = c.reserve.ensures.stage;
    over = c.reserve.ensures.over;
    input = c.reserve.ensures.input;
    pending = c.reserve.ensures.pending;
  })) (stays_read c.in-NotYet.ensures.lately (work_same _)),
  λ ex. inl (subst (λ (i : ℕ). (g.W.World.lately c.read.new.self).read_quiet i ≡ true) s.1 c.in-NotYet.ensures.lately.read_quiet),
)

pub back_bytes-requires-clause-waits : goal.back_bytes-requires-clause-waits
back_bytes-requires-clause-waits g c = let s = (serving_still c.args.conn.now c.reserve.new.self c.reserve.ensures.phase c.reserve.ensures.stage c.reserve.ensures.current c.in-Some.ensures) in s.0

pub back_bytes-requires-clause-room : goal.back_bytes-requires-clause-room
back_bytes-requires-clause-room g c = c.in_ok-reserve.ensures.room.notes

pub returns-in_err-back_bytes-in-Got-clause-went : goal.returns-in_err-back_bytes-in-Got-clause-went
returns-in_err-back_bytes-in-Got-clause-went g c = λ desk. let s = (serving_still c.args.conn.now c.reserve.new.self c.reserve.ensures.phase c.reserve.ensures.stage c.reserve.ensures.current c.in-Some.ensures) in
    went_then (went_none c.requires.linked (keeps_same c.reserve.ensures.client c.reserve.ensures.current c.reserve.ensures.phase c.reserve.ensures.stage) c.reserve.ensures.reached)
    (went_server c.in-Some.link (gave _) (linked_still c.requires.linked (keeps_same c.reserve.ensures.client c.reserve.ensures.current c.reserve.ensures.phase c.reserve.ensures.stage)) s refl refl c.in-Got.ensures.seen.2 c.in-Got.ensures.lately.only
    (keeps_open s.0.phase c.back_bytes.ensures.client c.back_bytes.ensures.server c.back_bytes.ensures.number) c.back_bytes.ensures.reached)

pub returns-in_err-back_bytes-in-Got-clause-server : goal.returns-in_err-back_bytes-in-Got-clause-server
returns-in_err-back_bytes-in-Got-clause-server g c = server_then (keeps_server c.reserve.ensures.phase c.reserve.ensures.stage c.reserve.ensures.current) c.back_bytes.ensures.server

pub returns-in_err-back_bytes-in-Got-clause-counted : goal.returns-in_err-back_bytes-in-Got-clause-counted
returns-in_err-back_bytes-in-Got-clause-counted g c = let s = (serving_still c.args.conn.now c.reserve.new.self c.reserve.ensures.phase c.reserve.ensures.stage c.reserve.ensures.current c.in-Some.ensures) in counted_server (linked_still c.requires.linked (keeps_same c.reserve.ensures.client c.reserve.ensures.current c.reserve.ensures.phase c.reserve.ensures.stage)) s.0 s.1 c.in-Got.ensures.lately c.back_bytes.ensures.client c.back_bytes.ensures.server (omega arith) (counted_same c.reserve.ensures.client (keeps_server c.reserve.ensures.phase c.reserve.ensures.stage c.reserve.ensures.current) c.requires.counted)

pub returns-in_ok-back_bytes-in-Got-clause-went : goal.returns-in_ok-back_bytes-in-Got-clause-went
returns-in_ok-back_bytes-in-Got-clause-went g c = λ desk. let s = (serving_still c.args.conn.now c.reserve.new.self c.reserve.ensures.phase c.reserve.ensures.stage c.reserve.ensures.current c.in-Some.ensures) in
    went_then (went_none c.requires.linked (keeps_same c.reserve.ensures.client c.reserve.ensures.current c.reserve.ensures.phase c.reserve.ensures.stage) c.reserve.ensures.reached)
    (went_server c.in-Some.link (gave _) (linked_still c.requires.linked (keeps_same c.reserve.ensures.client c.reserve.ensures.current c.reserve.ensures.phase c.reserve.ensures.stage)) s refl refl c.in-Got.ensures.seen.2 c.in-Got.ensures.lately.only
    (keeps_open s.0.phase c.back_bytes.ensures.client c.back_bytes.ensures.server c.back_bytes.ensures.number) c.back_bytes.ensures.reached)

pub returns-in_ok-back_bytes-in-Got-clause-server : goal.returns-in_ok-back_bytes-in-Got-clause-server
returns-in_ok-back_bytes-in-Got-clause-server g c = server_then (keeps_server c.reserve.ensures.phase c.reserve.ensures.stage c.reserve.ensures.current) c.back_bytes.ensures.server

pub returns-in_ok-back_bytes-in-Got-clause-counted : goal.returns-in_ok-back_bytes-in-Got-clause-counted
returns-in_ok-back_bytes-in-Got-clause-counted g c = let s = (serving_still c.args.conn.now c.reserve.new.self c.reserve.ensures.phase c.reserve.ensures.stage c.reserve.ensures.current c.in-Some.ensures) in counted_server (linked_still c.requires.linked (keeps_same c.reserve.ensures.client c.reserve.ensures.current c.reserve.ensures.phase c.reserve.ensures.stage)) s.0 s.1 c.in-Got.ensures.lately c.back_bytes.ensures.client c.back_bytes.ensures.server (omega arith) (counted_same c.reserve.ensures.client (keeps_server c.reserve.ensures.phase c.reserve.ensures.stage c.reserve.ensures.current) c.requires.counted)

pub back_end-requires-clause-waits : goal.back_end-requires-clause-waits
back_end-requires-clause-waits g c = let s = (serving_still c.args.conn.now c.reserve.new.self c.reserve.ensures.phase c.reserve.ensures.stage c.reserve.ensures.current c.in-Some.ensures) in s.0

pub back_end-requires-clause-room : goal.back_end-requires-clause-room
back_end-requires-clause-room g c = c.in_ok-reserve.ensures.room.notes

pub returns-in_err-back_end-in-End-clause-went : goal.returns-in_err-back_end-in-End-clause-went
returns-in_err-back_end-in-End-clause-went g c = λ desk. let s = (serving_still c.args.conn.now c.reserve.new.self c.reserve.ensures.phase c.reserve.ensures.stage c.reserve.ensures.current c.in-Some.ensures) in
    went_then (went_none c.requires.linked (keeps_same c.reserve.ensures.client c.reserve.ensures.current c.reserve.ensures.phase c.reserve.ensures.stage) c.reserve.ensures.reached)
    (went_server c.in-Some.link gave_end (linked_still c.requires.linked (keeps_same c.reserve.ensures.client c.reserve.ensures.current c.reserve.ensures.phase c.reserve.ensures.stage)) s refl refl c.in-End.ensures.seen c.in-End.ensures.lately.only
    (keeps_open s.0.phase c.back_end.ensures.client c.back_end.ensures.server c.back_end.ensures.number) c.back_end.ensures.reached)

pub returns-in_err-back_end-in-End-clause-server : goal.returns-in_err-back_end-in-End-clause-server
returns-in_err-back_end-in-End-clause-server g c = server_then (keeps_server c.reserve.ensures.phase c.reserve.ensures.stage c.reserve.ensures.current) c.back_end.ensures.server

pub returns-in_err-back_end-in-End-clause-counted : goal.returns-in_err-back_end-in-End-clause-counted
returns-in_err-back_end-in-End-clause-counted g c = let s = (serving_still c.args.conn.now c.reserve.new.self c.reserve.ensures.phase c.reserve.ensures.stage c.reserve.ensures.current c.in-Some.ensures) in counted_server (linked_still c.requires.linked (keeps_same c.reserve.ensures.client c.reserve.ensures.current c.reserve.ensures.phase c.reserve.ensures.stage)) s.0 s.1 c.in-End.ensures.lately c.back_end.ensures.client c.back_end.ensures.server (omega arith) (counted_same c.reserve.ensures.client (keeps_server c.reserve.ensures.phase c.reserve.ensures.stage c.reserve.ensures.current) c.requires.counted)

pub returns-in_ok-back_end-in-End-clause-went : goal.returns-in_ok-back_end-in-End-clause-went
returns-in_ok-back_end-in-End-clause-went g c = λ desk. let s = (serving_still c.args.conn.now c.reserve.new.self c.reserve.ensures.phase c.reserve.ensures.stage c.reserve.ensures.current c.in-Some.ensures) in
    went_then (went_none c.requires.linked (keeps_same c.reserve.ensures.client c.reserve.ensures.current c.reserve.ensures.phase c.reserve.ensures.stage) c.reserve.ensures.reached)
    (went_server c.in-Some.link gave_end (linked_still c.requires.linked (keeps_same c.reserve.ensures.client c.reserve.ensures.current c.reserve.ensures.phase c.reserve.ensures.stage)) s refl refl c.in-End.ensures.seen c.in-End.ensures.lately.only
    (keeps_open s.0.phase c.back_end.ensures.client c.back_end.ensures.server c.back_end.ensures.number) c.back_end.ensures.reached)

pub returns-in_ok-back_end-in-End-clause-server : goal.returns-in_ok-back_end-in-End-clause-server
returns-in_ok-back_end-in-End-clause-server g c = server_then (keeps_server c.reserve.ensures.phase c.reserve.ensures.stage c.reserve.ensures.current) c.back_end.ensures.server

pub returns-in_ok-back_end-in-End-clause-counted : goal.returns-in_ok-back_end-in-End-clause-counted
returns-in_ok-back_end-in-End-clause-counted g c = let s = (serving_still c.args.conn.now c.reserve.new.self c.reserve.ensures.phase c.reserve.ensures.stage c.reserve.ensures.current c.in-Some.ensures) in counted_server (linked_still c.requires.linked (keeps_same c.reserve.ensures.client c.reserve.ensures.current c.reserve.ensures.phase c.reserve.ensures.stage)) s.0 s.1 c.in-End.ensures.lately c.back_end.ensures.client c.back_end.ensures.server (omega arith) (counted_same c.reserve.ensures.client (keeps_server c.reserve.ensures.phase c.reserve.ensures.stage c.reserve.ensures.current) c.requires.counted)

pub back_failed-requires-clause-waits : goal.back_failed-requires-clause-waits
back_failed-requires-clause-waits g c = let s = (serving_still c.args.conn.now c.reserve.new.self c.reserve.ensures.phase c.reserve.ensures.stage c.reserve.ensures.current c.in-Some.ensures) in s.0

pub back_failed-requires-clause-room : goal.back_failed-requires-clause-room
back_failed-requires-clause-room g c = c.in_ok-reserve.ensures.room.notes

pub returns-in_err-back_failed-in-Failed-clause-went : goal.returns-in_err-back_failed-in-Failed-clause-went
returns-in_err-back_failed-in-Failed-clause-went g c = λ desk. let s = (serving_still c.args.conn.now c.reserve.new.self c.reserve.ensures.phase c.reserve.ensures.stage c.reserve.ensures.current c.in-Some.ensures) in
    went_then (went_none c.requires.linked (keeps_same c.reserve.ensures.client c.reserve.ensures.current c.reserve.ensures.phase c.reserve.ensures.stage) c.reserve.ensures.reached)
    (went_server_fault c.in-Some.link (linked_still c.requires.linked (keeps_same c.reserve.ensures.client c.reserve.ensures.current c.reserve.ensures.phase c.reserve.ensures.stage)) s c.in-Failed.ensures.seen c.in-Failed.ensures.lately.only
    (keeps_open s.0.phase c.back_failed.ensures.client c.back_failed.ensures.server c.back_failed.ensures.number) (c.back_failed.ensures.reached (c.reserve.ensures.prompt c.requires.prompt)))

pub returns-in_err-back_failed-in-Failed-clause-server : goal.returns-in_err-back_failed-in-Failed-clause-server
returns-in_err-back_failed-in-Failed-clause-server g c = server_then (keeps_server c.reserve.ensures.phase c.reserve.ensures.stage c.reserve.ensures.current) c.back_failed.ensures.server

pub returns-in_err-back_failed-in-Failed-clause-counted : goal.returns-in_err-back_failed-in-Failed-clause-counted
returns-in_err-back_failed-in-Failed-clause-counted g c = let s = (serving_still c.args.conn.now c.reserve.new.self c.reserve.ensures.phase c.reserve.ensures.stage c.reserve.ensures.current c.in-Some.ensures) in counted_server (linked_still c.requires.linked (keeps_same c.reserve.ensures.client c.reserve.ensures.current c.reserve.ensures.phase c.reserve.ensures.stage)) s.0 s.1 c.in-Failed.ensures.lately c.back_failed.ensures.client c.back_failed.ensures.server (omega arith) (counted_same c.reserve.ensures.client (keeps_server c.reserve.ensures.phase c.reserve.ensures.stage c.reserve.ensures.current) c.requires.counted)

pub returns-in_ok-back_failed-in-Failed-clause-went : goal.returns-in_ok-back_failed-in-Failed-clause-went
returns-in_ok-back_failed-in-Failed-clause-went g c = λ desk. let s = (serving_still c.args.conn.now c.reserve.new.self c.reserve.ensures.phase c.reserve.ensures.stage c.reserve.ensures.current c.in-Some.ensures) in
    went_then (went_none c.requires.linked (keeps_same c.reserve.ensures.client c.reserve.ensures.current c.reserve.ensures.phase c.reserve.ensures.stage) c.reserve.ensures.reached)
    (went_server_fault c.in-Some.link (linked_still c.requires.linked (keeps_same c.reserve.ensures.client c.reserve.ensures.current c.reserve.ensures.phase c.reserve.ensures.stage)) s c.in-Failed.ensures.seen c.in-Failed.ensures.lately.only
    (keeps_open s.0.phase c.back_failed.ensures.client c.back_failed.ensures.server c.back_failed.ensures.number) (c.back_failed.ensures.reached (c.reserve.ensures.prompt c.requires.prompt)))

pub returns-in_ok-back_failed-in-Failed-clause-server : goal.returns-in_ok-back_failed-in-Failed-clause-server
returns-in_ok-back_failed-in-Failed-clause-server g c = server_then (keeps_server c.reserve.ensures.phase c.reserve.ensures.stage c.reserve.ensures.current) c.back_failed.ensures.server

pub returns-in_ok-back_failed-in-Failed-clause-counted : goal.returns-in_ok-back_failed-in-Failed-clause-counted
returns-in_ok-back_failed-in-Failed-clause-counted g c = let s = (serving_still c.args.conn.now c.reserve.new.self c.reserve.ensures.phase c.reserve.ensures.stage c.reserve.ensures.current c.in-Some.ensures) in counted_server (linked_still c.requires.linked (keeps_same c.reserve.ensures.client c.reserve.ensures.current c.reserve.ensures.phase c.reserve.ensures.stage)) s.0 s.1 c.in-Failed.ensures.lately c.back_failed.ensures.client c.back_failed.ensures.server (omega arith) (counted_same c.reserve.ensures.client (keeps_server c.reserve.ensures.phase c.reserve.ensures.stage c.reserve.ensures.current) c.requires.counted)

pub returns-in-NotYet-clause-went : goal.returns-in-NotYet-clause-went
returns-in-NotYet-clause-went g c = λ desk. let s = (serving_still c.args.conn.now c.reserve.new.self c.reserve.ensures.phase c.reserve.ensures.stage c.reserve.ensures.current c.in-Some.ensures) in
    went_then (went_none c.requires.linked (keeps_same c.reserve.ensures.client c.reserve.ensures.current c.reserve.ensures.phase c.reserve.ensures.stage) c.reserve.ensures.reached)
    (went_quiet c.in-Some.link (linked_still c.requires.linked (keeps_same c.reserve.ensures.client c.reserve.ensures.current c.reserve.ensures.phase c.reserve.ensures.stage)) (of_server s.0 s.1) c.in-NotYet.ensures.seen c.in-NotYet.ensures.lately.only (keeps_all _) (λ steps r. r))

pub returns-in-NotYet-clause-server : goal.returns-in-NotYet-clause-server
returns-in-NotYet-clause-server g c = keeps_server c.reserve.ensures.phase c.reserve.ensures.stage c.reserve.ensures.current

pub returns-in-NotYet-clause-counted : goal.returns-in-NotYet-clause-counted
returns-in-NotYet-clause-counted g c = let s = (serving_still c.args.conn.now c.reserve.new.self c.reserve.ensures.phase c.reserve.ensures.stage c.reserve.ensures.current c.in-Some.ensures) in counted_server (linked_still c.requires.linked (keeps_same c.reserve.ensures.client c.reserve.ensures.current c.reserve.ensures.phase c.reserve.ensures.stage)) s.0 s.1 c.in-NotYet.ensures.lately refl (λ ex. (ex, refl)) (omega arith) (counted_same c.reserve.ensures.client (keeps_server c.reserve.ensures.phase c.reserve.ensures.stage c.reserve.ensures.current) c.requires.counted)

pub returns-in_default-clause-links : goal.returns-in_default-clause-links
returns-in_default-clause-links g c = closes_same refl

pub returns-in_err-reserve-clause-links : goal.returns-in_err-reserve-clause-links
returns-in_err-reserve-clause-links g c = closes_same refl

pub returns-then-reads-ge-READS-clause-links : goal.returns-then-reads-ge-READS-clause-links
returns-then-reads-ge-READS-clause-links g c = closes_same refl

pub returns-in_err-back_bytes-in-Got-clause-links : goal.returns-in_err-back_bytes-in-Got-clause-links
returns-in_err-back_bytes-in-Got-clause-links g c = closes_event c.in-Got.ensures.seen.2

pub returns-in_err-back_end-in-End-clause-links : goal.returns-in_err-back_end-in-End-clause-links
returns-in_err-back_end-in-End-clause-links g c = closes_event c.in-End.ensures.seen

pub returns-in_err-back_failed-in-Failed-clause-links : goal.returns-in_err-back_failed-in-Failed-clause-links
returns-in_err-back_failed-in-Failed-clause-links g c = closes_fault c.in-Failed.ensures.seen

pub returns-in_ok-back_bytes-in-Got-clause-links : goal.returns-in_ok-back_bytes-in-Got-clause-links
returns-in_ok-back_bytes-in-Got-clause-links g c = closes_event c.in-Got.ensures.seen.2

pub returns-in_ok-back_end-in-End-clause-links : goal.returns-in_ok-back_end-in-End-clause-links
returns-in_ok-back_end-in-End-clause-links g c = closes_event c.in-End.ensures.seen

pub returns-in_ok-back_failed-in-Failed-clause-links : goal.returns-in_ok-back_failed-in-Failed-clause-links
returns-in_ok-back_failed-in-Failed-clause-links g c = closes_fault c.in-Failed.ensures.seen

pub returns-in-NotYet-clause-links : goal.returns-in-NotYet-clause-links
returns-in-NotYet-clause-links g c = closes_same c.in-NotYet.ensures.seen
