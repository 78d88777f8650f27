use Rattle.std.proofs.Common.{List, subst}
use Rattle.std.specs.Result.{IfOk}
use Rattle.service_faults.specs.References.{ServiceEntry}
use Rattle.service_faults.specs.Judgements.{IsJudgement}
use Rattle.service_faults.proofs.faults.judge_services.Goals as goal

pub returns : goal.returns
returns c =
    let P : List ServiceEntry → Type 0 = λ es. IfOk c.judge_linked.result (IsJudgement es) in
    subst P c.as_slice-services.ensures c.judge_linked.ensures
