use Rattle.proxy_cmd.proofs.commands.answer_check_file.Goals as goal

pub returns-in-Err-Unread-clause-stop : goal.returns-in-Err-Unread-clause-stop
returns-in-Err-Unread-clause-stop g c = rw c.in-Err-Unread.field-0-is at c.in-Err-Unread.ensures.stop
