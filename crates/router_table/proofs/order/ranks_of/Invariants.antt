use Rattle.std.proofs.Common.{All}
use Rattle.router_table.specs.Orders.{IsRank, AreRanked}
use Rattle.router_table.proofs.order.ranks_of.Given as goal

abbrev pub invariant-loop-number : goal.invariant-loop-number
invariant-loop-number l = record { are : All (IsRank l.rows) l.ranks.items; all : AreRanked l.rows l.number l.ranks.items }
