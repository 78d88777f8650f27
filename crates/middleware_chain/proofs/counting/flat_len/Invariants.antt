use Rattle.std.proofs.Common.{◌≡◌, ◌-◌, ◌^◌, min, take}
use Rattle.middleware_chain.specs.Counts.{flat_length}
use Rattle.middleware_chain.proofs.counting.flat_len.Given as goal

abbrev pub invariant-loop-name : goal.invariant-loop-name
invariant-loop-name l = l.length ≡ min (flat_length l.middlewares (take l.name-index l.names)) (2 ^ 32 - 1)
