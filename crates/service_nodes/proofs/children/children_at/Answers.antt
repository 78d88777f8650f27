use Rattle.std.proofs.Common.{None}
use Rattle.reference_graph.specs.Numbering.{number_in}
use Rattle.service_nodes.specs.Nodes.{number_behind}
use Rattle.service_nodes.proofs.Making.{children_more}
use Rattle.service_nodes.proofs.children.children_at.Goals as goal

pub child_at-requires : goal.child_at-requires
child_at-requires c = c.requires c.loop-place.place-index None c.loop-place-test.true

pub loop-place-preserved : goal.loop-place-preserved
loop-place-preserved c =
    children_more (number_behind (number_in c.args.numbers.now)) c.args.places.now c.loop-place.children c.push.new.self c.loop-place.place-index c.child_at.result
    c.loop-place-test.true c.in_ok-push.ensures.ok c.loop-place.invariant c.child_at.ensures
