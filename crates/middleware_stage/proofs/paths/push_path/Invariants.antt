use Rattle.std.proofs.Common.{◌≡◌, ◌++◌, take}
use Rattle.middleware_stage.specs.Paths.{escaped, is_path_byte}
use Rattle.middleware_stage.proofs.paths.push_path.Given as goal

abbrev pub invariant-loop-byte : goal.invariant-loop-byte
invariant-loop-byte l = l.out.items ≡ l.initial.out.items ++ escaped is_path_byte (take l.byte-index l.text)
