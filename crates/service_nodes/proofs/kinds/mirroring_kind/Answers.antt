use Rattle.service_nodes.specs.Ready.{HasNumber}
use Rattle.service_nodes.proofs.Making.{all_first, all_rest}
use Rattle.service_nodes.proofs.kinds.mirroring_kind.Goals as goal

pub child_at-requires : goal.child_at-requires
child_at-requires c = all_first (HasNumber c.args.numbers.now) c.args.places.now c.in-Some.mirrors.now c.in-Some.main.now c.in-Some.ensures.cases.0 c.requires.leads

pub children_at-requires : goal.children_at-requires
children_at-requires c = all_rest (HasNumber c.args.numbers.now) c.args.places.now c.in-Some.mirrors.now c.in-Some.main.now c.in-Some.ensures.cases.0 c.requires.leads
