use Rattle.std.proofs.Common.{◌≡◌, length}
use Rattle.middleware_graph.proofs.Judging.{AreSome}
use Rattle.middleware_graph.proofs.state.states_of.Given as goal

abbrev pub invariant-loop-place : goal.invariant-loop-place
invariant-loop-place l = record {
  size : length l.states ≡ l.place;
  some : AreSome l.nodes l.states;
}
