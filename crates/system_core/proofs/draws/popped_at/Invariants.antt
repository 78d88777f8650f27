use Rattle.std.proofs.Common.{◌≡◌, drop, map}
use Rattle.system_core.specs.Records.{last_pop}
use Rattle.system_core.specs.Views.{picked_of}
use Rattle.system_core.proofs.draws.popped_at.Given as goal

abbrev pub invariant-loop-pop : goal.invariant-loop-pop
invariant-loop-pop l = last_pop l.number l.node l.count (map picked_of (drop l.pop-index l.popped)) ≡ last_pop l.number l.node 0 (map picked_of l.popped)
