use Rattle.middleware_stage.proofs.Lawful.{kind_lawful}
use Rattle.middleware_stage.proofs.building.build_plain.Goals as goal

pub built-requires : goal.built-requires
built-requires c = kind_lawful c.in_ok-kind.kind c.args.def.now c.in_ok-kind.ensures c.requires.valued
