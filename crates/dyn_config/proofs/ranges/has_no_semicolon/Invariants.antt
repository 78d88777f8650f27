use Rattle.std.proofs.Common.{◌≡◌, ◌==◌, true, take, not}
use Rattle.std.specs.List.{list_all}
use Rattle.dyn_config.proofs.ranges.has_no_semicolon.Given as goal

abbrev pub invariant-loop-byte : goal.invariant-loop-byte
invariant-loop-byte l = list_all (λ b. not (b == 59)) (take l.byte-index l.text) ≡ true
