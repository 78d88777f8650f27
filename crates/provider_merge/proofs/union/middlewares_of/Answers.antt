use Rattle.dyn_config.specs.Kept.{is_middleware}
use Rattle.provider_merge.proofs.Distinct.{union_passes}
use Rattle.provider_merge.proofs.union.middlewares_of.Goals as goal

pub returns-clause-in_range : goal.returns-clause-in_range
returns-clause-in_range c =
    union_passes is_middleware c.args.file c.args.consul c.in_ok-entries.entries c.in_ok-entries.ensures.union c.requires.file_in_range c.requires.consul_in_range
