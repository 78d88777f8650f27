use Rattle.std.proofs.Common.{◌≤◌, arith}
use Rattle.conn_machine.proofs.Finds.{spans_most}
use Rattle.conn_machine.proofs.pins.find_row.Goals as goal

pub row_of-requires-clause-head : goal.row_of-requires-clause-head
row_of-requires-clause-head c = let le : 32 ≤ 100 = omega arith in spans_most le c.in-Whole.ensures.whole
