use Rattle.std.proofs.Common.{◌≤◌, drop, length}
use Rattle.middleware_chain.specs.Folds.{BackThrough}
use Rattle.middleware_chain.specs.Stages.{defs_at}
use Rattle.middleware_chain.proofs.replying.back_through.Given as goal

abbrev pub invariant-loop-left : goal.invariant-loop-left
invariant-loop-left l = record {
  within : l.left ≤ length l.places;
  replied : BackThrough (drop l.left (defs_at l.parts l.places)) l.initial.reply l.reply;
}

abbrev pub decreases-loop-left : goal.decreases-loop-left
decreases-loop-left l = l.left
