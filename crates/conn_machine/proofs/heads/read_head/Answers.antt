use Rattle.std.proofs.Common.{◌≤◌, arith}
use Rattle.conn_machine.proofs.Finds.{spans_most}
use Rattle.conn_machine.proofs.Prompts.{part_empty}
use Rattle.conn_machine.proofs.heads.read_head.Goals as goal

pub returns-then-is_empty : goal.returns-then-is_empty
returns-then-is_empty c = part_empty c.is_empty.result c.args.buf.now c.is_empty.ensures c.if-is_empty.true

pub take_head-requires-clause-head : goal.take_head-requires-clause-head
take_head-requires-clause-head c = let le : 32 ≤ 100 = omega arith in spans_most le c.in-Whole.ensures.whole
