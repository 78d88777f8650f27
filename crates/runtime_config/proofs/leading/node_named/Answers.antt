use Rattle.std.proofs.Common.{is_some, ap, ◌∙◌}
use Rattle.std.proofs.lemmas.Bool.{false≢true}
use Rattle.runtime_config.proofs.Numbered.{number_inside, node_read}
use Rattle.runtime_config.proofs.leading.node_named.Goals as goal

pub bounds-nodes-number : goal.bounds-nodes-number
bounds-nodes-number c = number_inside c.as_slice-nodes.result.now c.args.graph.now.nodes c.args.name.now c.in-Some.number c.as_slice-nodes.ensures c.in-Some.ensures

pub returns-clause-node : goal.returns-clause-node
returns-clause-node c =
    node_read c.as_slice-nodes.result.now c.args.graph.now.nodes c.args.name.now c.in-Some.number c.index-nodes-number.result c.as_slice-nodes.ensures c.in-Some.ensures
    c.index-nodes-number.is

pub unreachable-requires : goal.unreachable-requires
unreachable-requires c = false≢true (ap is_some c.in-None.ensures ∙ c.requires)
