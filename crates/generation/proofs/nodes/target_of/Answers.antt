use Rattle.std.proofs.Common.{sym, ◌∙◌}
use Rattle.generation.proofs.Leading.{named_here, same_name}
use Rattle.generation.proofs.nodes.target_of.Goals as goal

pub returns-then-eq : goal.returns-then-eq
returns-then-eq c = named_here c.args.nodes.now c.args.name.now c.loop-node.node-index c.node-item.result c.loop-node-test.true c.node-item.is
    (sym c.as_slice.ensures ∙ same_name c.as_slice.result.now c.args.name.now c.eq.result c.eq.ensures c.if-eq.true) c.loop-node.invariant.aim
