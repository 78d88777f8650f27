use Rattle.std.proofs.lemmas.Result.{IfOk-weaker}
use Rattle.provider_merge.proofs.alone.merge_file.Goals as goal

pub returns : goal.returns
returns c = IfOk-weaker c.merge.result _ _ (λ m is. (c.empty_config.result, c.empty_config.ensures, is)) c.merge.ensures.merged
