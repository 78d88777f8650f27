use Rattle.std.proofs.Common.{ℕ, List, Some, inl, sym, subst}
use Rattle.dyn_config.specs.declared.service.ServerDef.{ServerDef}
use Rattle.service_graph.specs.Urls.{IsUrlFault}
use Rattle.service_faults.specs.Own.{IsUrlState}
use Rattle.service_faults.proofs.own.url_fault.Goals as goal

pub returns-in-Err : goal.returns-in-Err
returns-in-Err c =
    let P : List ℕ → Type 0 = λ url. IsUrlFault url c.in-Err.fault in
    let Q : List ServerDef → Type 0 = λ servers. IsUrlState servers (Some c.in-Err.fault) in
    c.loop-server.invariant (Some c.in-Err.fault) (subst Q (sym c.in-Some.ensures.cases.0) (inl (subst P c.as_slice.ensures c.in-Err.ensures)))
