use Rattle.std.proofs.Common.{refl, subst, sym, ℕ, List, length, ◌<◌, ◌≤◌}
use Rattle.link_world.specs.Log.{took}
use Rattle.conn_service.proofs.Wents.{went_event, went_fault, went_quiet, of_client, keeps_open, keeps_all, keeps_ending, ending_from, server_from, prompt_ending}
use Rattle.conn_service.proofs.Counts.{counted_write, stays_write, work_same}
use Rattle.conn_service.proofs.Leaves.{closes_same, closes_event, closes_fault}
use Rattle.conn_service.proofs.client.send.Goals as goal

pub write-requires-clause-given : goal.write-requires-clause-given
write-requires-clause-given g c = c.requires.linked.client c.requires.open

pub write-requires-clause-piece : goal.write-requires-clause-piece
write-requires-clause-piece g c = subst (λ (l : List ℕ). 0 < length l) (sym c.pending.ensures) c.requires.some

pub took-requires-clause-some : goal.took-requires-clause-some
took-requires-clause-some g c = subst (λ (l : List ℕ). c.in-Took.n ≤ length l) c.pending.ensures c.in-Took.ensures.seen.1

pub returns-in_err-took-in-Took-clause-went : goal.returns-in_err-took-in-Took-clause-went
returns-in_err-took-in-Took-clause-went g c = λ desk. let w = rw c.pending.ensures at c.in-Took.ensures.seen.2 in
    went_event c.args.conn.now.client.link (took _) c.requires.linked (of_client refl) (λ ne. refl) refl w c.in-Took.ensures.lately.only
    (keeps_open c.requires.open c.took.ensures.client c.took.ensures.server c.took.ensures.number) c.took.ensures.reached

pub returns-in_err-took-in-Took-clause-counted : goal.returns-in_err-took-in-Took-clause-counted
returns-in_err-took-in-Took-clause-counted g c = λ r h. counted_write c.in-Took.ensures.lately c.took.ensures.client c.took.ensures.server h

pub returns-in_ok-took-in-Took-clause-went : goal.returns-in_ok-took-in-Took-clause-went
returns-in_ok-took-in-Took-clause-went g c = λ desk. let w = rw c.pending.ensures at c.in-Took.ensures.seen.2 in
    went_event c.args.conn.now.client.link (took _) c.requires.linked (of_client refl) (λ ne. refl) refl w c.in-Took.ensures.lately.only
    (keeps_open c.requires.open c.took.ensures.client c.took.ensures.server c.took.ensures.number) c.took.ensures.reached

pub returns-in_ok-took-in-Took-clause-counted : goal.returns-in_ok-took-in-Took-clause-counted
returns-in_ok-took-in-Took-clause-counted g c = λ r h. counted_write c.in-Took.ensures.lately c.took.ensures.client c.took.ensures.server h

pub returns-in-NotYet-clause-went : goal.returns-in-NotYet-clause-went
returns-in-NotYet-clause-went g c = λ desk. went_quiet c.args.conn.now.client.link c.requires.linked (of_client refl) c.in-NotYet.ensures.seen c.in-NotYet.ensures.lately.only (keeps_all _) (λ steps r. r)

pub returns-in-NotYet-clause-server : goal.returns-in-NotYet-clause-server
returns-in-NotYet-clause-server g c = λ ex. (ex, refl)

pub returns-in-NotYet-clause-counted : goal.returns-in-NotYet-clause-counted
returns-in-NotYet-clause-counted g c = λ r h. counted_write c.in-NotYet.ensures.lately refl (λ ex. (ex, refl)) h

pub returns-in-NotYet-clause-still : goal.returns-in-NotYet-clause-still
returns-in-NotYet-clause-still g c = λ e. (stays_write c.in-NotYet.ensures.lately (work_same _), c.in-NotYet.ensures.lately.write_quiet)

pub returns-in-Failed-clause-went : goal.returns-in-Failed-clause-went
returns-in-Failed-clause-went g c = λ desk. went_fault c.args.conn.now.client.link c.requires.linked (of_client refl) c.in-Failed.ensures.seen c.in-Failed.ensures.lately.only
    (keeps_ending (ending_from c.fail.ensures.over tt) c.fail.ensures.client c.fail.ensures.number) c.fail.ensures.reached

pub returns-in-Failed-clause-server : goal.returns-in-Failed-clause-server
returns-in-Failed-clause-server g c = server_from (ending_from c.fail.ensures.over tt)

pub returns-in-Failed-clause-prompt : goal.returns-in-Failed-clause-prompt
returns-in-Failed-clause-prompt g c = λ before. prompt_ending (ending_from c.fail.ensures.over tt)

pub returns-in-Failed-clause-counted : goal.returns-in-Failed-clause-counted
returns-in-Failed-clause-counted g c = λ r h. counted_write c.in-Failed.ensures.lately c.fail.ensures.client (server_from (ending_from c.fail.ensures.over tt)) h

pub returns-in_err-took-in-Took-clause-links : goal.returns-in_err-took-in-Took-clause-links
returns-in_err-took-in-Took-clause-links g c = closes_event c.in-Took.ensures.seen.2

pub returns-in_ok-took-in-Took-clause-links : goal.returns-in_ok-took-in-Took-clause-links
returns-in_ok-took-in-Took-clause-links g c = closes_event c.in-Took.ensures.seen.2

pub returns-in-NotYet-clause-links : goal.returns-in-NotYet-clause-links
returns-in-NotYet-clause-links g c = closes_same c.in-NotYet.ensures.seen

pub returns-in-Failed-clause-links : goal.returns-in-Failed-clause-links
returns-in-Failed-clause-links g c = closes_fault c.in-Failed.ensures.seen
