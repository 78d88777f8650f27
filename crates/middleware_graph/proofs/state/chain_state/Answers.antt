use Rattle.std.proofs.Common.{arith, sym}
use Rattle.middleware_graph.specs.Graph.{max_depth}
use Rattle.middleware_graph.proofs.Judging.{found_few}
use Rattle.middleware_graph.proofs.state.chain_state.Goals as goal

pub overflow_cast-result : goal.overflow_cast-result
overflow_cast-result c =
    omega (arith, found_few c.args.nodes.now c.args.flats.now max_depth c.args.place c.in-Some.places.now c.requires.flats (sym c.in-Some.ensures))
