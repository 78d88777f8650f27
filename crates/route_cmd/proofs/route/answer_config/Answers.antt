use Rattle.std.proofs.Common.{arith}
use Rattle.std.proofs.lemmas.Result.{IfOk-weaker}
use Rattle.provider_merge.proofs.Few.{few_of_file}
use Rattle.route_cmd.specs.Output.{configured}
use Rattle.route_cmd.proofs.Stopped.{stops_config}
use Rattle.route_cmd.proofs.route.answer_config.Goals as goal

pub answer_merged-requires : goal.answer_merged-requires
answer_merged-requires g c = let few = few_of_file c.args.config c.in_ok-merged.merged c.in_ok-merged.ensures in omega (arith, few)

pub returns-clause-told : goal.returns-clause-told
returns-clause-told g c =
    IfOk-weaker c.answer_merged.result _ _ (λ a h file bytes was means.
    configured c.in_ok-merged.merged (record { bytes = bytes; was_read = was; config = c.args.config; means = means; alone = c.in_ok-merged.ensures }) h) c.answer_merged.ensures.told

pub returns-clause-stop : goal.returns-clause-stop
returns-clause-stop g c = stops_config c.answer_merged.result c.args.config c.in_ok-merged.merged _ c.in_ok-merged.ensures c.answer_merged.ensures.stop
