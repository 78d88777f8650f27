use Rattle.std.proofs.Common.{◌≡◌, take}
use Rattle.middleware_stage.specs.Views.{range_texts}
use Rattle.middleware_stage.proofs.building.ranges_of.Given as goal

abbrev pub invariant-loop-text : goal.invariant-loop-text
invariant-loop-text l = range_texts l.ranges ≡ take l.text-index l.text-items
