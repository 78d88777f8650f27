use Rattle.service_nodes.proofs.Whole.{numbered_from, within_from, long_from, layered_from}
use Rattle.service_nodes.proofs.building.graph_of.Goals as goal

pub number_all-requires-clause-within : goal.number_all-requires-clause-within
number_all-requires-clause-within c = within_from c.args.services.now c.args.judgement c.as_slice-links.result.now c.requires.judged c.as_slice-links.ensures.value

pub number_all-requires-clause-long : goal.number_all-requires-clause-long
number_all-requires-clause-long c =
    long_from c.args.services.now c.args.judgement c.as_slice-links.result.now c.as_slice-heights.result.now c.requires.judged c.as_slice-links.ensures.value c.as_slice-heights.ensures.value

pub number_all-requires-clause-layered : goal.number_all-requires-clause-layered
number_all-requires-clause-layered c =
    layered_from c.args.services.now c.args.judgement c.as_slice-links.result.now c.as_slice-heights.result.now c.requires.judged c.as_slice-links.ensures.value c.as_slice-heights.ensures.value

pub graph_numbered-requires-clause-numbered : goal.graph_numbered-requires-clause-numbered
graph_numbered-requires-clause-numbered c =
    numbered_from c.args.services.now c.args.judgement c.as_slice-links.result.now c.as_slice-heights.result.now c.in_ok-numbering.numbering.order.items
    c.in_ok-numbering.numbering.numbers.items c.requires.judged c.as_slice-links.ensures.value c.as_slice-heights.ensures.value c.in_ok-numbering.ensures.order
    c.in_ok-numbering.ensures.numbers c.in_ok-numbering.ensures.sound c.in_ok-numbering.ensures.few
