use Rattle.std.proofs.Common.{◌≡◌, map, take}
use Rattle.dyn_config.specs.Names.{referred}
use Rattle.router_table.proofs.references.names_of.Given as goal

abbrev pub invariant-loop-reference : goal.invariant-loop-reference
invariant-loop-reference l = l.names ≡ map (referred l.provider) (take l.reference-index l.references)
