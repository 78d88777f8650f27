use Rattle.std.proofs.Common.{sym, List, subst}
use Rattle.std.specs.Result.{IfOk}
use Rattle.service_faults.specs.Judgements.{IsJudgement}
use Rattle.service_faults.specs.References.{ServiceEntry}
use Rattle.service_nodes.specs.Graphs.{IsGraph}
use Rattle.service_nodes.proofs.building.build_graph.Goals as goal

pub returns : goal.returns
returns c =
    let P : List ServiceEntry → Type 0 = λ es. IfOk c.graph_of.result (IsGraph es) in
    subst P c.as_slice.ensures c.graph_of.ensures

pub graph_of-requires-clause-judged : goal.graph_of-requires-clause-judged
graph_of-requires-clause-judged c =
    let P : List ServiceEntry → Type 0 = λ es. IsJudgement es c.in_ok-judgement.judgement in
    subst P (sym c.as_slice.ensures) c.in_ok-judgement.ensures
