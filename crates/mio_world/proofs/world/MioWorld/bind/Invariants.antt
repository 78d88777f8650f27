use Rattle.std.proofs.Common.{◌≡◌}
use Rattle.mio_world.proofs.world.MioWorld.bind.Given as goal

abbrev pub invariant-loop-at : goal.invariant-loop-at
invariant-loop-at g l = l.access ≡ l.fn.access
