use Rattle.std.proofs.Common.{◌∙◌, refl}
use Rattle.service_nodes.proofs.Numbered.{are_ready}
use Rattle.service_nodes.proofs.Whole.{numbered_as, node_lawful, nodes_few, graph_whole}
use Rattle.service_nodes.proofs.building.graph_numbered.Goals as goal

pub nodes_of-requires-clause-links : goal.nodes_of-requires-clause-links
nodes_of-requires-clause-links c = c.as_slice-places.ensures.value ∙ c.requires.judged.links_are

pub nodes_of-requires-clause-ready : goal.nodes_of-requires-clause-ready
nodes_of-requires-clause-ready c =
    are_ready c.args.services.now c.args.judgement c.as_slice-order.result.now c.as_slice-numbers.result.now c.requires.few c.requires.judged
    (numbered_as c.args.services.now c.args.judgement c.args.numbering.now.order.items c.as_slice-order.result.now c.args.numbering.now.numbers.items c.as_slice-numbers.result.now
    c.as_slice-order.ensures.value c.as_slice-numbers.ensures.value c.requires.numbered)

pub invariant_of-result : goal.invariant_of-result
invariant_of-result c =
    let numbered = numbered_as c.args.services.now c.args.judgement c.args.numbering.now.order.items c.as_slice-order.result.now c.args.numbering.now.numbers.items
    c.as_slice-numbers.result.now c.as_slice-order.ensures.value c.as_slice-numbers.ensures.value c.requires.numbered in
    record {
      few = nodes_few c.args.services.now c.args.judgement c.as_slice-order.result.now c.as_slice-numbers.result.now c.in_ok-nodes.nodes c.requires.few numbered c.in_ok-nodes.ensures;
      lawful = node_lawful c.args.services.now c.args.judgement c.as_slice-order.result.now c.as_slice-numbers.result.now c.in_ok-nodes.nodes c.requires.in_range c.requires.judged
          numbered (are_ready c.args.services.now c.args.judgement c.as_slice-order.result.now c.as_slice-numbers.result.now c.requires.few c.requires.judged numbered)
          c.in_ok-nodes.ensures;
    }

pub returns : goal.returns
returns c =
    let numbered = numbered_as c.args.services.now c.args.judgement c.args.numbering.now.order.items c.as_slice-order.result.now c.args.numbering.now.numbers.items
    c.as_slice-numbers.result.now c.as_slice-order.ensures.value c.as_slice-numbers.ensures.value c.requires.numbered in
    graph_whole c.args.services.now c.args.judgement c.as_slice-order.result.now c.as_slice-numbers.result.now _ c.requires.judged numbered c.in_ok-nodes.ensures refl
