use Rattle.std.proofs.Common.{take}
use Rattle.std.specs.List.{AllZip}
use Rattle.service_nodes.specs.Nodes.{IsServerOf}
use Rattle.service_nodes.proofs.servers.servers_of.Given as goal

abbrev pub invariant-loop-def : goal.invariant-loop-def
invariant-loop-def l = AllZip IsServerOf (take l.def-index l.defs) l.servers
