use Rattle.std.proofs.Common.{◌≡◌, map, take}
use Rattle.runtime_config.specs.Usable.{name_of}
use Rattle.runtime_config.proofs.usable.names_of.Given as goal

abbrev pub invariant-loop-node : goal.invariant-loop-node
invariant-loop-node l = l.names ≡ map name_of (take l.node-index l.nodes)
