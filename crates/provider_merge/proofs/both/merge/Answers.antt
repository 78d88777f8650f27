use Rattle.provider_merge.proofs.Few.{few_in_union}
use Rattle.provider_merge.proofs.both.merge.Goals as goal

pub returns-clause-few : goal.returns-clause-few
returns-clause-few c =
    few_in_union c.args.file.services c.args.consul.services c.in_ok-services.services c.args.file.few.few_services c.args.consul.few.few_services c.in_ok-services.ensures.union
