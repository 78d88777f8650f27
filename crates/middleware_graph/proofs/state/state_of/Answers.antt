use Rattle.middleware_graph.proofs.Judging.{stage_stands}
use Rattle.middleware_graph.proofs.state.state_of.Goals as goal

pub returns-in-Stage : goal.returns-in-Stage
returns-in-Stage c = stage_stands c.args.nodes.now c.args.place c.args.node.now c.requires.node c.in-Stage.is
