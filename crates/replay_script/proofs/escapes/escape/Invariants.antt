use Rattle.std.proofs.Common.{◌≡◌, ◌++◌, take}
use Rattle.replay_script.specs.Escapes.{escaped}
use Rattle.replay_script.proofs.escapes.escape.Given as goal

abbrev pub invariant-loop-byte : goal.invariant-loop-byte
invariant-loop-byte l = l.out.items ≡ l.initial.out.items ++ escaped (take l.byte-index l.bytes)
