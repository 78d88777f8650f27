-- The sum so far and what divides the weights so far.
use Rattle.std.proofs.Common.{◌≡◌, ◌*◌, ◌^◌, ◌≤◌, sum, take}
use Rattle.wrr_deadlines.proofs.Divisors.{DividesFirst}
use Rattle.wrr_deadlines.proofs.reduced.period_of.Given as goal

abbrev pub invariant-loop-weight : goal.invariant-loop-weight
invariant-loop-weight l = record {
  total : l.sum ≡ sum (take l.weight-index l.weights);
  small : l.sum ≤ l.weight-index * 2 ^ 32;
  common : DividesFirst l.weights l.weight-index l.divisor;
}
