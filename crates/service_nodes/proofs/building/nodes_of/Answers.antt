use Rattle.reference_graph.specs.Numbering.{number_in}
use Rattle.service_nodes.specs.Nodes.{IsNodeAt}
use Rattle.service_nodes.proofs.Making.{zip_more, zip_all}
use Rattle.service_nodes.proofs.building.nodes_of.Goals as goal

pub loop-at-preserved : goal.loop-at-preserved
loop-at-preserved c =
    zip_more (IsNodeAt c.args.services.now (number_in c.args.numbers.now)) c.args.order.now c.loop-at.nodes c.push.new.self c.loop-at.at-index 0 c.in_ok-node.node
    c.loop-at-test.true c.in_ok-push.ensures.ok c.loop-at.invariant c.in_ok-node.ensures

pub returns : goal.returns
returns c =
    zip_all (IsNodeAt c.args.services.now (number_in c.args.numbers.now)) c.args.order.now c.loop-at.nodes c.loop-at.at-index c.loop-at-test.false c.loop-at.invariant
