use Rattle.std.proofs.Common.{◌≡◌, ◌++◌, drop}
use Rattle.runtime_config.specs.Usable.{usable_of}
use Rattle.runtime_config.proofs.usable.usable_middlewares.Given as goal

abbrev pub invariant-loop-middleware : goal.invariant-loop-middleware
invariant-loop-middleware l = l.usable ++ usable_of (drop l.middleware-index l.middlewares) ≡ usable_of l.middlewares
