use Rattle.std.proofs.Common.{◌≡◌, ◌++◌, drop, map}
use Rattle.std.specs.List.{filter}
use Rattle.dyn_config.specs.Readings.{line_of, is_line}
use Rattle.dyn_config.proofs.lists.lines_in.Given as goal

abbrev pub invariant-loop-at : goal.invariant-loop-at
invariant-loop-at l = filter is_line (map line_of l.fields) ≡ l.lines ++ filter is_line (map line_of (drop l.at l.fields))
