use Rattle.std.proofs.Common.{◌≡◌, drop}
use Rattle.middleware_chain.specs.Counts.{count_named}
use Rattle.middleware_chain.proofs.counting.count_named.Given as goal

abbrev pub invariant-loop-middleware : goal.invariant-loop-middleware
invariant-loop-middleware l = count_named l.middlewares l.name ≡ count_named (drop l.middleware-index l.middlewares) l.name
