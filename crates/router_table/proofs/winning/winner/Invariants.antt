use Rattle.rule_eval.specs.Truth.{asked_of}
use Rattle.router_table.proofs.Won.{NoneBefore}
use Rattle.router_table.proofs.winning.winner.Given as goal

abbrev pub invariant-loop-number : goal.invariant-loop-number
invariant-loop-number l = NoneBefore l.fn.table.rows l.fn.table.order l.number-index l.entry (asked_of l.view) l.fn.peer
