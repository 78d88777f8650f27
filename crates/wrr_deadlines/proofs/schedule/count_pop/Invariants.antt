-- The counts so far are 0.
use Rattle.std.proofs.Common.{◌≡◌, ℕ, ◌<◌, slice_index}
use Rattle.wrr_deadlines.proofs.schedule.count_pop.Given as goal

abbrev pub invariant-loop-count : goal.invariant-loop-count
invariant-loop-count l = (k : ℕ) → k < l.count-index → slice_index l.counts k ≡ 0
