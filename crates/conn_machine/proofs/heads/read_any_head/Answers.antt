use Rattle.std.proofs.Common.{refl, inl}
use Rattle.conn_machine.proofs.Finds.{found_large}
use Rattle.conn_machine.proofs.heads.read_any_head.Goals as goal

pub returns-else-buf-lt-HEAD_LIMIT : goal.returns-else-buf-lt-HEAD_LIMIT
returns-else-buf-lt-HEAD_LIMIT c = found_large c.args.buf.now c.args.peer _ refl c.in-Part.ensures.found.1 c.requires (inl c.if-buf-lt-HEAD_LIMIT.false)
