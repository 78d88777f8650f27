use Rattle.std.proofs.Common.{◌≡◌, length}
use Rattle.dyn_config.specs.Walk.{plain}
use Rattle.dyn_config.proofs.numbers.plain.Given as goal

abbrev pub invariant-loop-rest : goal.invariant-loop-rest
invariant-loop-rest l = plain l.key ≡ plain l.rest

abbrev pub decreases-loop-rest : goal.decreases-loop-rest
decreases-loop-rest l = length l.rest
