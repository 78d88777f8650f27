-- The table so far holds the pops so far.
use Rattle.std.proofs.Common.{◌≡◌}
use Rattle.wrr_deadlines.specs.Turn.{first_pops}
use Rattle.wrr_deadlines.proofs.table.Period.new.Given as goal

abbrev pub invariant-loop-place : goal.invariant-loop-place
invariant-loop-place l = record {
  weights : l.schedule.weights ≡ l.weights;
  taken : l.schedule.taken ≡ l._place;
  pops : l.pops.items ≡ first_pops l.weights l._place;
}
