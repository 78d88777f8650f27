-- The first so far is the one that is due first of the children so far.
use Rattle.std.proofs.Common.{◌≡◌, ◌+◌, ◌≤◌, slice_index}
use Rattle.wrr_deadlines.specs.Turn.{earliest}
use Rattle.wrr_deadlines.proofs.schedule.due_first.Given as goal

abbrev pub invariant-loop-child : goal.invariant-loop-child
invariant-loop-child l = record {
  within : l.first ≤ l.child;
  found : l.first ≡ earliest l.weights (λ i. slice_index l.counts i + 1) l.child;
}
