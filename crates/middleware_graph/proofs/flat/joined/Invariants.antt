use Rattle.std.proofs.Common.{◌≡◌, ◌≤◌, drop, length}
use Rattle.middleware_graph.specs.Graph.{joined}
use Rattle.middleware_graph.specs.Tables.{found_in}
use Rattle.middleware_graph.proofs.Flattening.{before}
use Rattle.middleware_graph.proofs.flat.joined.Given as goal

abbrev pub invariant-loop-member : goal.invariant-loop-member
invariant-loop-member l = record {
  few : length l.places.items ≤ 64;
  read : joined (found_in l.table) l.members ≡ before l.places.items (joined (found_in l.table) (drop l.member-index l.members));
}
