use Rattle.std.proofs.Common.{◌≡◌, drop, map}
use Rattle.std.specs.List.{list_any}
use Rattle.dyn_config.specs.Readings.{preserves_path}
use Rattle.dyn_config.proofs.readers.some_preserves_path.Given as goal

abbrev pub invariant-loop-at : goal.invariant-loop-at
invariant-loop-at l = list_any (preserves_path l.style) (map (λ element. element.now) l.found) ≡ list_any (preserves_path l.style) (map (λ element. element.now) (drop l.at l.found))
