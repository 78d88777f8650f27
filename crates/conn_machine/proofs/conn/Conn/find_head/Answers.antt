use Rattle.std.proofs.Common.{refl}
use Rattle.conn_machine.specs.declared.heads.Found.TheVariants as found
use Rattle.conn_machine.proofs.Opens.{opened_at, reached_open, reached_broken}
use Rattle.conn_machine.proofs.Starts.{reached_client, opened_found, found_at}
use Rattle.conn_machine.proofs.Prompts.{prompt_head, part_of}
use Rattle.conn_machine.proofs.conn.Conn.find_head.Goals as goal

pub returns-then-self-clause-reached : goal.returns-then-self-clause-reached
returns-then-self-clause-reached c = λ steps r.
    reached_client _ refl c.if-self.true
    (found_at c.args.self.now.client.peer c.front.result.now c.as_slice.result.now c.args.self.now.input.items c.in_ok-found.found found.Part c.front.ensures.front c.as_slice.ensures.value c.in-Part.is c.in_ok-found.ensures)
    (opened_at c.requires r)

pub returns-in-Head-clause-reached : goal.returns-in-Head-clause-reached
returns-in-Head-clause-reached c = λ steps r.
    reached_open _ refl (opened_found c.in-Head.asked c.in-Head.size refl refl refl refl refl
    (found_at c.args.self.now.client.peer c.front.result.now c.as_slice.result.now c.args.self.now.input.items c.in_ok-found.found (found.Head c.in-Head.asked c.in-Head.size) c.front.ensures.front c.as_slice.ensures.value c.in-Head.is c.in_ok-found.ensures)
    (opened_at c.requires r))

pub returns-else-self-clause-prompt : goal.returns-else-self-clause-prompt
returns-else-self-clause-prompt c =
    prompt_head c.requires.stage c.if-self.false (part_of c.args.self.now.client.peer c.args.self.now.input.items
    (found_at c.args.self.now.client.peer c.front.result.now c.as_slice.result.now c.args.self.now.input.items c.in_ok-found.found found.Part c.front.ensures.front c.as_slice.ensures.value c.in-Part.is c.in_ok-found.ensures))

pub returns-in_err-found-clause-reached : goal.returns-in_err-found-clause-reached
returns-in_err-found-clause-reached c = λ steps r. reached_broken _ refl (opened_at c.requires r)
