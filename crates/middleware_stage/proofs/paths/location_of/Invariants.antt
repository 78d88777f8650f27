use Rattle.std.proofs.Common.{◌≡◌, take}
use Rattle.middleware_stage.specs.Paths.{escaped, is_visible}
use Rattle.middleware_stage.proofs.paths.location_of.Given as goal

abbrev pub invariant-loop-byte : goal.invariant-loop-byte
invariant-loop-byte l = l.location.items ≡ escaped is_visible (take l.byte-index l.target)
