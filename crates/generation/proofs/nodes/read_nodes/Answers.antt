use Rattle.std.proofs.Common.{subst, sym}
use Rattle.service_graph.specs.Only.{HasOnly}
use Rattle.generation.proofs.Numbering.{added_more}
use Rattle.generation.proofs.nodes.read_nodes.Goals as goal

pub add_node-requires : goal.add_node-requires
add_node-requires c = subst HasOnly (sym c.service-item.is) (c.requires c.loop-service.service-index c.service-item.result c.loop-service-test.true)

pub loop-service-preserved : goal.loop-service-preserved
loop-service-preserved c = added_more c.args.services.now c.loop-service.service-index c.service-item.result c.loop-service.nodes c.add_node.new.nodes c.loop-service-test.true c.service-item.is c.loop-service.invariant c.in_ok-add_node.ensures
