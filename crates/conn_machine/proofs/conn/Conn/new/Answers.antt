use Rattle.std.proofs.Common.{refl, sym}
use Rattle.conn_machine.proofs.Opens.{reached_open}
use Rattle.conn_machine.proofs.Starts.{opened_new}
use Rattle.conn_machine.proofs.Prompts.{prompt_new}
use Rattle.conn_machine.proofs.conn.Conn.new.Goals as goal

pub returns-clause-reached : goal.returns-clause-reached
returns-clause-reached c =
    reached_open _ refl (opened_new (record { link = c.args.link; entry = c.in_ok-entry.entry; peer = c.args.peer }) _ _ c.args.entry.now c.new.result.items c.new-5.result.items c.new-6.result.items (sym c.in_ok-entry.ensures) c.new.ensures.items c.new-5.ensures.items c.new-6.ensures.items refl refl refl)

pub returns-clause-prompt : goal.returns-clause-prompt
returns-clause-prompt c = prompt_new refl refl c.new.ensures.items
