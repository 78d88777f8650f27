use Rattle.std.proofs.lemmas.Result.{IfOk-weaker}
use Rattle.provider_merge.proofs.latest.merge_latest.Goals as goal

pub returns-clause-merged : goal.returns-clause-merged
returns-clause-merged c =
    IfOk-weaker c.merge.result _ _ (λ m h. (c.in_ok-file.file, c.in_ok-consul.consul, c.in_ok-file.ensures, c.in_ok-consul.ensures, h)) c.merge.ensures.merged
