use Rattle.std.proofs.Common.{◌≡◌, drop, map}
use Rattle.router_table.specs.Settings.{is_listed}
use Rattle.generation.specs.Meaning.{aim_named}
use Rattle.generation.specs.Nodes.{name_of}
use Rattle.generation.proofs.nodes.target_of.Given as goal

abbrev pub invariant-loop-node : goal.invariant-loop-node
invariant-loop-node l = record {
  aim : aim_named (drop l.node-index l.nodes) l.name ≡ aim_named l.nodes l.name;
  listed : is_listed (map name_of (drop l.node-index l.nodes)) l.name ≡ is_listed (map name_of l.nodes) l.name;
}
